pub mod LineLemmas
pub mod TableLemmas
pub mod HypothesisLemmas
pub mod ReasonLemmas
