-- Definitions that the contracts of the lock cite.
pub mod Lists
pub mod Seats
pub mod Turns
