pub mod Saving
pub mod Runs
