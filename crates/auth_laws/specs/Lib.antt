pub mod Chains
pub mod Exchanges
pub mod Right
pub mod Wrong
