pub mod Causes
pub mod Streams
pub mod Wires
pub mod Stores
