pub mod NodesLaws
pub mod KeptLaws
pub mod BesideLaws
pub mod CandidatesLaws
pub mod TurnLaws
pub mod LeftLaws
