pub mod Noted
pub mod Listed
pub mod Woken
pub mod Shelves
pub mod Slots
pub mod Views
pub mod Leaving
