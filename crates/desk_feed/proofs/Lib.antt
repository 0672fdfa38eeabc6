pub mod TakenLaws
pub mod HeldLaws
pub mod JudgedLaws
pub mod Tests
