pub mod Walks
pub mod Values
pub mod Laws
pub mod Edits
