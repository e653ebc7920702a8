pub mod WriteBuffer
