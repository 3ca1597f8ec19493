pub mod Closes
pub mod Found
pub mod Parts
pub mod Stands
pub mod Stops
pub mod Runs
