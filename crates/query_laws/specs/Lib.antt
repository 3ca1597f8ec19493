pub mod Begins
pub mod Found
pub mod Stood
pub mod Made
pub mod Commits
pub mod Answers
pub mod Tried
