pub mod Advancing
pub mod Answered
pub mod Kept
pub mod Running
pub mod Stopping
