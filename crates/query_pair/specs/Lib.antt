pub mod Made
pub mod Pair
