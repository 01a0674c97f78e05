pub mod Lookups
pub mod Steps
pub mod Laws
pub mod Parcels
