pub mod Closing
pub mod Tried
