pub mod JudgeLaws
pub mod FaultsLaws
