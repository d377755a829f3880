mod LearnLemmas
pub mod FitLemmas
