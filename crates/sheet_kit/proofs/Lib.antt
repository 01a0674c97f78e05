pub mod Inputs
pub mod Layering
pub mod Scenes
