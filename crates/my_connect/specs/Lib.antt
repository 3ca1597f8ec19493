pub mod Idle
pub mod Ends
pub mod Transactions
pub mod Dialed
pub mod Connected
pub mod Refuted
