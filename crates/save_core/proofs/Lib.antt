pub mod Bound
mod Rooms
