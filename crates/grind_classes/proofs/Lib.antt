pub mod ListLemmas
pub mod ClassLemmas
pub mod MergeLemmas
pub mod TrailLemmas
pub mod UndoneLemmas
