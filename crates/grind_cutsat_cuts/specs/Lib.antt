pub mod Divisors
pub mod Factors
pub mod Cutting
pub mod Resolving
