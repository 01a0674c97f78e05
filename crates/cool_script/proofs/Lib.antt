pub mod Lines
pub mod Words
pub mod Played
pub mod Once
