pub mod Choice
pub mod Variety
pub mod Deeper
