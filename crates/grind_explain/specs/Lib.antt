pub mod Explained
pub mod Deriving
