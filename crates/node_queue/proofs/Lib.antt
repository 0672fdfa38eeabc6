pub mod WinnerLaws
pub mod ClimbLaws
pub mod LowerLaws
pub mod KeyLaws
