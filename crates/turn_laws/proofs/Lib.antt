pub mod Deciding
pub mod Explaining
pub mod Leading
pub mod Refusing
pub mod Standing
pub mod Turning
pub mod Making
