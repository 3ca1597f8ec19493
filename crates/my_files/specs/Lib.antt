pub mod Lending
pub mod Tried
