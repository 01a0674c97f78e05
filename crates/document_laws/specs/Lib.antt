pub mod AtOnce
pub mod Saved
pub mod Tiles
pub mod Turns
