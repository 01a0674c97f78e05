pub mod Frames
pub mod Likely
pub mod Reading
