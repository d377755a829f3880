pub mod Classes
pub mod Roots
pub mod Trail
