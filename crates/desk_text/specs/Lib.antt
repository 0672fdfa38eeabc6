pub mod Desk
pub mod Written
pub mod Print
pub mod Lines
pub mod Shown
pub mod Finished
