pub mod Drop
pub mod Walks
