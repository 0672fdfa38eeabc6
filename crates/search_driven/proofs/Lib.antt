pub mod MarksLaws
pub mod DrivenLaws
