pub mod EachWord
pub mod Scripts
pub mod Texts
