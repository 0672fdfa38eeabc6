pub mod QueueLaws
pub mod EnteredLaws
