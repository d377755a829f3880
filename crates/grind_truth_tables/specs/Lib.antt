pub mod Tables
pub mod Assignments
pub mod Needed
pub mod Laws
pub mod TableCases
