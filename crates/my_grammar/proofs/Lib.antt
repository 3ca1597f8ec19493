pub mod Commands
pub mod Cutting
pub mod Growth
pub mod Sound
pub mod Staying
