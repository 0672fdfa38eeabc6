pub mod FillLaws
pub mod ClearLaws
pub mod MadeLaws
