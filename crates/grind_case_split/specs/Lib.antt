pub mod Congruences
pub mod Laws
