pub mod AskLaws
pub mod CandidateLaws
pub mod EarlierLaws
