pub mod Queue
pub mod Choice
