pub mod Kept
pub mod Found
pub mod Batches
pub mod Cleaned
pub mod Bytes
pub mod CleanTapes
pub mod RightTapes
pub mod WrongTapes
