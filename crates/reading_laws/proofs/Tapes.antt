pub mod Clean
pub mod Right
pub mod Wrong
