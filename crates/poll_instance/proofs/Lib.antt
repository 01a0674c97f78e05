pub mod Moves
pub mod Tokens
mod Examples
