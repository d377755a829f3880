pub mod Blocks
pub mod Naming
pub mod Report
pub mod ReportCases
