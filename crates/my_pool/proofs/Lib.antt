pub mod Wholes
pub mod Waiting
pub mod Deciding
pub mod Requesting
pub mod Moving
pub mod Burying
