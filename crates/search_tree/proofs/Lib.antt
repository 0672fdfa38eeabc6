pub mod TreeLaws
pub mod BlockLaws
pub mod EnterLaws
