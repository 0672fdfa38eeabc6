pub mod ListsLaws
pub mod StageLaws
pub mod BeginLaws
pub mod EnterLaws
