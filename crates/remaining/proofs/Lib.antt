pub mod GoingLaws
pub mod StandingLaws
