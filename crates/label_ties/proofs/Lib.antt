pub mod TogetherLaws
pub mod ClimbLaws
pub mod PairLaws
pub mod CutLaws
