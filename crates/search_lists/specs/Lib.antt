pub mod Link
pub mod Listed
pub mod Run
