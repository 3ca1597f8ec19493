pub mod Outputs
pub mod MadeBeside
pub mod Polls
pub mod Runs
pub mod Stopping
pub mod WrongRuns
pub mod WrongStops
