pub mod FileIds
pub mod Tokens
pub mod Same
pub mod Answered
pub mod Statuses
pub mod Uniqueness
