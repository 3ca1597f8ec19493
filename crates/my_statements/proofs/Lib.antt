mod Numbered
mod Apart
mod Steps
mod Knowing
mod Same
