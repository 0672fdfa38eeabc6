pub mod Room
pub mod Stages
