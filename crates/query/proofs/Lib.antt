pub mod DecideLaws
pub mod Promises
pub mod Cases
pub mod Whole
pub mod Open
pub mod Tests
