pub mod Stage
pub mod Lists
