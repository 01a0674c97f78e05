pub mod Answering
pub mod Stays
