pub mod Old
pub mod Turned
pub mod Read
