pub mod Connecting
pub mod Refuting
