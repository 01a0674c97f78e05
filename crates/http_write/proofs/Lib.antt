pub mod Joins
pub mod SentParts
pub mod Again
