pub mod Decided
pub mod Explained
pub mod Turns
pub mod Makings
