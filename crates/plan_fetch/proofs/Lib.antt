pub mod PassLaws
pub mod LayLaws
pub mod FetchLaws
