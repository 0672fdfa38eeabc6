pub mod Going
pub mod Standing
