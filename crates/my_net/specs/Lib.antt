pub mod Untold
pub mod Streams
