pub mod Order
pub mod Monomials
pub mod Counts
pub mod Laws
