pub mod ByEndLaws
pub mod SecondLaws
pub mod ComingLaws
pub mod FindLaws
pub mod JudgeLaws
pub mod LookupLaws
