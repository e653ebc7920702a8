pub mod Clocklogs
pub mod Finishing
pub mod Lines
pub mod Timings
