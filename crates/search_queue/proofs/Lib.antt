pub mod OnlyLaws
pub mod WorkingLaws
pub mod OrderLaws
pub mod ClimbLaws
pub mod EnterLaws
pub mod QueueLaws
