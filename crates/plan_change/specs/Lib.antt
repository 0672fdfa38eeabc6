pub mod Change
pub mod Moved
