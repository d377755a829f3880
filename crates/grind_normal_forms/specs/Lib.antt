pub mod Pairs
pub mod Reduction
pub mod Ranks
pub mod Gathering
pub mod FinalFactors
pub mod FinalCases
pub mod Laws
