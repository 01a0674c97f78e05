pub mod Viewing
pub mod Keeps
pub mod Slots
pub mod Moves
pub mod Held
pub mod Faults
