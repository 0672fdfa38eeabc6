pub mod Query
pub mod Told
