pub mod Values
pub mod Ranges
pub mod Evaluation
pub mod Gathering
pub mod Blocks
