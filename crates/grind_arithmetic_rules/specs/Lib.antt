pub mod LinearRules
pub mod PolyRules
pub mod ArithmeticCases
