pub mod BoxReplays
pub mod StackReplays
pub mod Stacking
