pub mod Sound
pub mod Complete
pub mod Characters
pub mod Apart
pub mod Written
pub mod Readable
