mod Adding
mod Every
pub mod LoginLaws
pub mod Sendable
pub mod Standing
