pub mod DivisorLemmas
pub mod FactorLemmas
pub mod CutLemmas
pub mod ResolveLemmas
pub mod SumLemmas
