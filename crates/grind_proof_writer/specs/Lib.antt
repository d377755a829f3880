pub mod Lines
pub mod Branches
pub mod Writing
pub mod Laws
