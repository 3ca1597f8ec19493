mod Bodies
pub mod Filling
mod Pieces
mod Texts
