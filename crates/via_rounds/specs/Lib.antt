pub mod Turn
pub mod Profiled
