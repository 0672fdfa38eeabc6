pub mod Ratios
pub mod Rows
pub mod Routes
