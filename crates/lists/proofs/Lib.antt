pub mod Cases
pub mod TestLaws
pub mod MemberLaws
pub mod IndexLaws
pub mod LoopLaws
pub mod RangeLaws
pub mod StdLaws
