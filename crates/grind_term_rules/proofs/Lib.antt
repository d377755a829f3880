pub mod Premises
pub mod RuleLemmas
pub mod InstanceWalks
