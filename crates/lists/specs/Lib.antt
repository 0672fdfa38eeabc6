pub mod Tests
pub mod Index
