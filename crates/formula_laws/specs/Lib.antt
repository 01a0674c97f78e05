pub mod Language
pub mod Spelling
