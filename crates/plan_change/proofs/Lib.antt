pub mod FrontLaws
pub mod WithdrawLaws
pub mod CollectLaws
