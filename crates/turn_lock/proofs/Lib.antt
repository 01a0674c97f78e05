pub mod Growing
pub mod Keeps
