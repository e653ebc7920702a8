pub mod Digests
pub mod Images
pub mod Lines
