pub mod Via
pub mod Joined
