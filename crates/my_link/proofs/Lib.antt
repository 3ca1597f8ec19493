pub mod Reading
pub mod Spending
pub mod Planning
pub mod Dialing
