pub mod Taken
pub mod Streams
pub mod Starts
pub mod Tried
