pub mod Facts
pub mod Covering
pub mod CoveringCases
