pub mod Matches
pub mod Partials
pub mod Index
pub mod SlotsEqual
pub mod Thinning
pub mod Buckets
pub mod Waiting
