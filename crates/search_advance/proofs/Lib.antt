pub mod OwnLaws
pub mod RankLaws
