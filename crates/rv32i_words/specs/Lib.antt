pub mod Fields
pub mod Immediates
pub mod Issues
pub mod Operations
pub mod Search
pub mod Words
