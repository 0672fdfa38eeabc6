pub mod WordLaws
pub mod ShiftLaws
pub mod PlaceLaws
pub mod MoveLaws
pub mod CopyLaws
