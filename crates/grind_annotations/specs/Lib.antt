pub mod Annotating
pub mod Asking
pub mod Giving
pub mod Written
