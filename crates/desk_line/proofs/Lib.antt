pub mod LineLaws
pub mod CutLaws
