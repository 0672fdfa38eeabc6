pub mod TextLaws
pub mod RoadLaws
pub mod WrittenLaws
pub mod Figure
