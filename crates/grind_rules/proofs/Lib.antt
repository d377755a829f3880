pub mod RuleGrowth
pub mod Counts
