pub mod BoundsLemmas
pub mod RightLemmas
pub mod JudgeLemmas
pub mod VerdictLemmas
pub mod GapLemmas
