-- When a transcript keeps to the plan of its world.
pub mod Planned
pub mod Left
pub mod Lines
pub mod Dials
pub mod Runs
