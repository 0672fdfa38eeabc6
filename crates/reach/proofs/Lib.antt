pub mod StandLaws
pub mod LookingLaws
pub mod ForwardLaws
pub mod ChoiceLaws
pub mod BackwardLaws
pub mod NotesLaws
