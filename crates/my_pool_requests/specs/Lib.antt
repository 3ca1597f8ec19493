pub mod Being
pub mod Stages
pub mod Settles
pub mod Makes
pub mod Looks
pub mod Polls
pub mod Leases
pub mod Laws
