pub mod Script
pub mod Follows
pub mod Replay
