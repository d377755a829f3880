pub mod BlockLemmas
pub mod EndingLemmas
pub mod SolveLemmas
pub mod WrittenLemmas
