pub mod Locks
pub mod Instance
