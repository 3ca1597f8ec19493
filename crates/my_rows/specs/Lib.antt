pub mod Fatal
pub mod Begins
pub mod Reads
pub mod Gathers
pub mod Answers
pub mod Calls
