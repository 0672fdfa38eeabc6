pub mod Lowest
pub mod Ordered
