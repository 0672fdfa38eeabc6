pub mod GatherLaws
pub mod BatchLaws
