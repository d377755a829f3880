pub mod Reached
pub mod ReachedCases
pub mod Readings
pub mod ReadingsCases
pub mod Marks
pub mod MarksCases
pub mod Values
pub mod Laws
