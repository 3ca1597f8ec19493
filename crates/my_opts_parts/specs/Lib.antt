pub mod Keys
pub mod Limits
pub mod Lists
pub mod Loopback
pub mod Pool
pub mod Transaction
pub mod TransactionOptions
