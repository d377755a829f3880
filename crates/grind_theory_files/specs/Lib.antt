pub mod Reading
pub mod TheoryFiles
