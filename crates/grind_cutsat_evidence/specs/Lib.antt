pub mod Evidence
pub mod Unread
pub mod Pairs
