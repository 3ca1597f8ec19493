pub mod Chaining
pub mod Refuting
pub mod Exchanging
