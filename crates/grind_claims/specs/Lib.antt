pub mod Claims
pub mod Copies
pub mod Laws
