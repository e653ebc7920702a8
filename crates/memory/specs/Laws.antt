pub mod Flat
pub mod Sum
