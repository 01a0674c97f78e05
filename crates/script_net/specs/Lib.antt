pub mod Gives
pub mod Past
pub mod Queues
