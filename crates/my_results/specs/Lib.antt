pub mod Gathers
pub mod Sets
pub mod Results
pub mod Unread
pub mod Taken
pub mod Streams
