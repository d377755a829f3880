pub mod Nodes
pub mod Placing
pub mod Tables
pub mod Beginnings
