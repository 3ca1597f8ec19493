pub mod Cache
pub mod Indexed
pub mod Fetched
pub mod Known
pub mod Prepared
