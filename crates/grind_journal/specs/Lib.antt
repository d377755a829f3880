pub mod Posts
pub mod Joins
pub mod Typed
pub mod Laws
