pub mod Fit
pub mod Stored
pub mod Pools
pub mod Asks
