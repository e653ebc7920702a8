pub mod Fields
pub mod Headers
pub mod Images
pub mod Places
pub mod Programs
pub mod Segments
pub mod Tables
pub mod Texts
