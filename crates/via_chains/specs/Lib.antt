pub mod Chains
pub mod Candidate
