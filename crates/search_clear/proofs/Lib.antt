pub mod ClearLaws
pub mod RowsLaws
