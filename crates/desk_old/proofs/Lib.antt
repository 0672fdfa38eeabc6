pub mod SaidLaws
pub mod CutLaws
pub mod SameLines
