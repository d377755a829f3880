pub mod CopyLemmas
pub mod Along
pub mod WalkLemmas
pub mod BodyLemmas
pub mod FormedLemmas
