pub mod OpenLaws
pub mod AnsweredLaws
