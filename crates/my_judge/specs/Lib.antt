pub mod Stands
pub mod Tapes
pub mod Courses
pub mod Ended
pub mod Reads
pub mod Settled
pub mod Verdicts
