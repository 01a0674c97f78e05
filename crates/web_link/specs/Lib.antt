pub mod Endings
pub mod Hearing
pub mod Frames
pub mod Pushing
