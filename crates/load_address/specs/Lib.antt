pub mod Addresses
pub mod Named
