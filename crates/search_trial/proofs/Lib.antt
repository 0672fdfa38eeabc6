pub mod OverlapLaws
pub mod TrialLaws
