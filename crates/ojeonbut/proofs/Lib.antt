pub mod AnswerLaws
pub mod RatedLaws
