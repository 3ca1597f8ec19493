pub mod Page
pub mod Unread
pub mod Cause
pub mod Message
pub mod Live
