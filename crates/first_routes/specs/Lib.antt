pub mod Firsts
pub mod Measured
pub mod Picking
pub mod Walking
