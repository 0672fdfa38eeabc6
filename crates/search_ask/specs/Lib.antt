pub mod Ask
pub mod Earlier
