pub mod Puts
pub mod Reading
