pub mod Fitting
pub mod Results
pub mod PolyResults
pub mod Derivations
pub mod LinearReadings
pub mod PolyReadings
