pub mod Seats
pub mod House
pub mod Taken
pub mod Answered
pub mod World
pub mod Moved
