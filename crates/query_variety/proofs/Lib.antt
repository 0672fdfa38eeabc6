pub mod MadeLaws
pub mod DecideLaws
