pub mod MarkLaws
pub mod PutLaws
pub mod ApartLaws
