pub mod Evaluations
pub mod Bounds
pub mod Nearest
pub mod Choices
pub mod BoundsCases
pub mod Limits
