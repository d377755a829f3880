pub mod Commands
pub mod Notes
pub mod Statuses
