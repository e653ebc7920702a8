pub mod Flat
pub mod Given
pub mod Laws
pub mod Numbered
pub mod OwnBytes
