pub mod Choice
pub mod Fractions
pub mod Steps
pub mod Best
pub mod Shared
pub mod Places
pub mod Listing
pub mod Figures
