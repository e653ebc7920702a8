pub mod Columns
pub mod Hex
pub mod Lines
