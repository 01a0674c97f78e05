pub mod Acts
pub mod Entering
