pub mod ArcsLaws
pub mod SaidLaws
pub mod CutLaws
