pub mod Described
pub mod Staying
pub mod Leading
pub mod Quieting
pub mod Keeping
