pub mod TryLaws
pub mod DeepLaws
