mod Conversions
pub mod Rows
