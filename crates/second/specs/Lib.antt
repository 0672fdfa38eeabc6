pub mod Second
pub mod Lookup
pub mod Find
