-- The machine of the hall, and the histories that it can make.
pub mod Machine
pub mod Ids
pub mod Entries
pub mod States
