pub mod Instances
pub mod TermRules
pub mod TermRuleCases
