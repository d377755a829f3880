pub mod Bases
pub mod Pairs
pub mod PairCases
pub mod Shares
pub mod ShareCases
pub mod Lines
pub mod Laws
