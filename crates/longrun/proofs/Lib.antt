pub mod Following
pub mod Marking
pub mod Stretches
