pub mod Requests
pub mod WaitStates
