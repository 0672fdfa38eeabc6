pub mod Stand
pub mod Looking
pub mod Steps
pub mod Choice
pub mod Turn
pub mod Way
