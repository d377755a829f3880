pub mod EvaluationLemmas
pub mod LimitLemmas
pub mod ChoiceLemmas
