pub mod Spending
pub mod Walking
pub mod Stepping
pub mod Running
pub mod Dialing
pub mod Keeping
