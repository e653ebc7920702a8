pub mod Cycle
pub mod Data
pub mod Decode
pub mod Fetch
pub mod Record
