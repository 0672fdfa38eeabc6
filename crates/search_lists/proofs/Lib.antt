pub mod FollowLaws
pub mod WalkLaws
pub mod CoverLaws
pub mod SweepLaws
pub mod ShownLaws
pub mod HeadLaws
pub mod ListedLaws
pub mod RunLaws
