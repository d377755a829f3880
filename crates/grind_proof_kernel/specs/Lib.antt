pub mod Literals
pub mod Typing
pub mod Layouts
pub mod Judgement
pub mod Laws
pub mod TypingCases
pub mod LiteralCases
