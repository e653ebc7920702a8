pub mod Endings
pub mod Messages
