pub mod Rings
pub mod Orders
pub mod Quotients
pub mod Lists
