pub mod Growth
mod Passing
