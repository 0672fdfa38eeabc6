pub mod Road
pub mod Taken
