pub mod TurnLaws
pub mod SinceLaws
