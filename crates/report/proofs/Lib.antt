pub mod Joined
pub mod Refusing
pub mod Running
