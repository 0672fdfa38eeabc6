pub mod WrittenLaws
pub mod Places
