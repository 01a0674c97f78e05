pub mod Loops
pub mod Exchanges
pub mod Calls
pub mod Kept
