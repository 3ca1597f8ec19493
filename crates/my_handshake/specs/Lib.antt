pub mod Attributes
pub mod Greeting
pub mod Login
pub mod SwitchRequest
pub mod Version
