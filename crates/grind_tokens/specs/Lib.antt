pub mod Fronts
pub mod TokenCases
pub mod Tokens
