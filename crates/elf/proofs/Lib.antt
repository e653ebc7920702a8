pub mod Checks
pub mod Chunks
pub mod Faultless
pub mod Images
pub mod Places
pub mod Putting
pub mod Sizes
