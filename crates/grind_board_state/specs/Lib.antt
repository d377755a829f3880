pub mod Agents
pub mod Reads
pub mod States
pub mod Beginnings
