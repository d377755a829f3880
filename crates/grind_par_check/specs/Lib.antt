pub mod Judges
pub mod Laws
pub mod Lines
pub mod Runs
