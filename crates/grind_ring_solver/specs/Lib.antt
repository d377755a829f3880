pub mod Given
pub mod Steps
pub mod Decisions
pub mod Laws
