pub mod Congruences
pub mod Laws
pub mod Facts
pub mod Building
pub mod Given
