pub mod AskedPlaces
pub mod Early
pub mod Places
pub mod Letters
pub mod Readings
pub mod Written
