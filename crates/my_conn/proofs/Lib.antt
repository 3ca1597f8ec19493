pub mod Standing
pub mod Resting
pub mod Cancelling
pub mod Forgetting
pub mod Driving
pub mod Making
pub mod Refusing
pub mod Sending
