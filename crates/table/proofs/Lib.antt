pub mod FaultLaws
pub mod Tests
pub mod NetLaws
pub mod RunLaws
pub mod TableLaws
