pub mod Functions
pub mod Signatures
