pub mod Answered
pub mod Fronts
