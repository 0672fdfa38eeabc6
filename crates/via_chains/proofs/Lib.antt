pub mod ChainsLaws
pub mod CandidateLaws
