pub mod Figures
pub mod First
pub mod Vias
pub mod Profile
pub mod Order
pub mod Sift
