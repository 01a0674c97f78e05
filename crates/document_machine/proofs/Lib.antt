pub mod Runs
pub mod Lists
pub mod Present
pub mod Journal
pub mod Turns
pub mod Groups
pub mod Rows
