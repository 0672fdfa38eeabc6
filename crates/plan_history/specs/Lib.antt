pub mod History
pub mod Older
