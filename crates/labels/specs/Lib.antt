pub mod Field
pub mod Chain
pub mod Rows
pub mod Standing
