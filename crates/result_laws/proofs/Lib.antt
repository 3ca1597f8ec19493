pub mod Closing
pub mod ClosingReads
pub mod Trying
