pub mod LineLaws
pub mod FeedLine
pub mod Written
pub mod Comment
pub mod Trip
