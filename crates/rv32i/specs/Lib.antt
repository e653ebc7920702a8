pub mod Bytewise
pub mod Causes
pub mod Effects
pub mod MicroOps
pub mod Registers
pub mod Signs
pub mod Targets
