pub mod Made
pub mod Call
