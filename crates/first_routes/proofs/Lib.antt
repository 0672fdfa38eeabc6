pub mod OutLaws
pub mod PickLaws
pub mod CountLaws
pub mod EnterLaws
pub mod WalkLaws
