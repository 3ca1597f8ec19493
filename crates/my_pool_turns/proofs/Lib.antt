pub mod Working
pub mod Once
