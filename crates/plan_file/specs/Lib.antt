pub mod File
pub mod Pass
pub mod Meaning
