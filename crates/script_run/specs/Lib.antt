pub mod Play
pub mod Uses
pub mod Transcript
pub mod Outcome
pub mod Complete
pub mod Determined
