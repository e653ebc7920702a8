pub mod Gaps
pub mod LongRuns
pub mod Watching
