pub mod Adopting
pub mod Answering
pub mod Keeping
