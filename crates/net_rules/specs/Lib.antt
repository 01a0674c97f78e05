pub mod Waits
pub mod Rooms
pub mod Kinds
pub mod Begun
pub mod Queues
