pub mod Calls
pub mod Logged
pub mod Pauses
pub mod Readings
pub mod Tokens
pub mod Theorem
