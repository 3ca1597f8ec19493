pub mod Tasks
pub mod Works
pub mod Turns
pub mod Laws
