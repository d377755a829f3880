pub mod SceneLemmas
pub mod FormulaLemmas
