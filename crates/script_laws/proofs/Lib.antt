mod Views
mod Links
mod Held
mod Turns
mod Lines
mod Screens
mod Sent
mod Shown
mod Replays
pub mod Rising
pub mod Saves
