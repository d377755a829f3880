pub mod NamedFiles
pub mod Outside
