pub mod Outside
pub mod Settling
pub mod Locking
pub mod Befalling
pub mod Doing
pub mod Lodging
pub mod Links
