pub mod Joins
pub mod Phases
