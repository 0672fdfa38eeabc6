pub mod Line
pub mod Scan
