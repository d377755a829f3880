pub mod Numbered
pub mod Needed
pub mod Plans
pub mod Planning
