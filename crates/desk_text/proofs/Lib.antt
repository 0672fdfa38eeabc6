pub mod TextLaws
pub mod RoundsLaws
pub mod ShapeLaws
pub mod DeskLaws
pub mod FinishLaws
pub mod Tests
