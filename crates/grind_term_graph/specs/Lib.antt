pub mod Terms
pub mod Shape
pub mod Beginnings
pub mod Same
pub mod Placed
pub mod Laws
