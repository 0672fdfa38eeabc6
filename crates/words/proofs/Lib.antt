pub mod PartLaws
pub mod NumberLaws
pub mod RecordLaws
pub mod BytesLaws
pub mod FillLaws
