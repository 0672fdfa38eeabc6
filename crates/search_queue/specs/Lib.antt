pub mod Working
pub mod Only
pub mod Order
