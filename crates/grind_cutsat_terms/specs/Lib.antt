pub mod Pinching
pub mod Settling
