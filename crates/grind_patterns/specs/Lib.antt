pub mod Copies
pub mod Patterns
pub mod Walking
pub mod PatternCases
