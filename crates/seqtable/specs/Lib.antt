pub mod Programs
pub mod Records
pub mod Tables
