pub mod PatchLaws
pub mod StoreLaws
pub mod RecordLaws
