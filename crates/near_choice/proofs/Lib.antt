pub mod LeastLaws
pub mod RankLaws
pub mod SeekLaws
