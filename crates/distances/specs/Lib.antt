pub mod Distance
pub mod Turned
pub mod Search
pub mod Greedy
pub mod Deep
