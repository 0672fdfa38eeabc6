pub mod Text
pub mod Parsed
