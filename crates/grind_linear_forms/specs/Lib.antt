pub mod Forms
pub mod Sums
pub mod Cuts
pub mod Readings
pub mod Values
pub mod Laws
pub mod Naming
pub mod Coefficients
