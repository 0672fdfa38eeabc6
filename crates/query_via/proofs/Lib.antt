pub mod DecideLaws
