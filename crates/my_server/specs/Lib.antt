pub mod Answer
pub mod Arrival
pub mod ClientLogin
pub mod Command
pub mod Core
pub mod Faults
pub mod History
pub mod Machine
