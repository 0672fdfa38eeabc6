pub mod Filled
pub mod QuotientLaws
pub mod GreatestLaws
pub mod ShareLaws
pub mod RouteLaws
pub mod AnsweredLaws
pub mod RowsLaws
