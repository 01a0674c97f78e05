pub mod Tokens
pub mod Tokenizing
pub mod Reading
pub mod Grammar
