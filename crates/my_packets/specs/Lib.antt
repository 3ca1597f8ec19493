pub mod Buffers
pub mod Rows
pub mod Reading
pub mod Writing
