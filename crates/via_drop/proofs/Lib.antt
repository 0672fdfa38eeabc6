pub mod BesideLaws
pub mod WalkLaws
pub mod DropLaws
pub mod LedLaws
