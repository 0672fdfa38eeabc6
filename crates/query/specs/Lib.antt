pub mod Query
pub mod Promises
pub mod Whole
