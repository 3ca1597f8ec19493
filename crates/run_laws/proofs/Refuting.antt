pub mod Chain
pub mod Shown
pub mod Streams
pub mod Wrong
pub mod Statements
