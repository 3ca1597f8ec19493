mod AttributeLaws
pub mod Readers
