pub mod FeedLaws
pub mod GrowLaws
pub mod EndLaws
pub mod SmallLaws
