pub mod LowestLaws
pub mod OrderedLaws
