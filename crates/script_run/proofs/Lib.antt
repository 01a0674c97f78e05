pub mod Moves
pub mod Exits
pub mod Splits
pub mod OneStatus
pub mod Ending
pub mod OneTranscript
