pub mod JudgeLemmas
pub mod LineLemmas
pub mod ShareLemmas
pub mod VerdictLemmas
