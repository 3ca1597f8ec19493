pub mod Chain
pub mod Laws
pub mod Plugins
pub mod Scrambles
