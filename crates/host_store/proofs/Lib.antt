pub mod Carried
pub mod Asked
