pub mod Gathering
pub mod Points
