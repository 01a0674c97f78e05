pub mod Asks
pub mod Talks
pub mod Stores
pub mod Kept
