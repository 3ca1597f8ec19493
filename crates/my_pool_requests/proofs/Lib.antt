pub mod Seeking
pub mod Checking
pub mod Outside
pub mod Being
pub mod Boxing
