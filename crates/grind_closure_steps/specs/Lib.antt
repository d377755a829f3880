pub mod Truths
pub mod Clashes
pub mod Steps
pub mod Laws
