pub mod Runs
pub mod Sequential
pub mod Stepping
