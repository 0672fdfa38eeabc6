pub mod Area
pub mod Progress
pub mod Finished
