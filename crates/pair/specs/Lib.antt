pub mod Pair
pub mod Walked
pub mod Figures
