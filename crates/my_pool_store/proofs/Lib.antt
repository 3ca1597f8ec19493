pub mod Noting
pub mod Finding
pub mod Waking
pub mod Calling
pub mod Shelving
pub mod Keeping
pub mod Leaving
