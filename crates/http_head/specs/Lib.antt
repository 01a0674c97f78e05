pub mod Lines
pub mod Framings
pub mod Requests
pub mod Responses
pub mod Corners
pub mod Phases
