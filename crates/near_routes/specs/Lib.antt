pub mod Tries
pub mod Deep
