pub mod SlotLaws
pub mod PickLaws
