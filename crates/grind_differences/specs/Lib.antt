pub mod Bounds
pub mod Differences
pub mod Equations
pub mod Laws
pub mod DifferenceCases
pub mod Held
