pub mod Lengths
pub mod Spellings
