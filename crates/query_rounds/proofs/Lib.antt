pub mod AreaLaws
pub mod SumsLaws
pub mod ProgressLaws
pub mod FinishLaws
pub mod RoundsLaws
pub mod SlotLaws
