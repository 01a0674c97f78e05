pub mod Moves
pub mod Files
pub mod Lacks
