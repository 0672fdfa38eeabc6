pub mod SlotLaws
pub mod PartLaws
pub mod PlaceLaws
pub mod TurnLaws
pub mod OutcomeLaws
