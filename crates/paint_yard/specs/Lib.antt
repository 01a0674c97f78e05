pub mod Hands
pub mod Offers
pub mod Working
