pub mod Targets
pub mod Table
pub mod Keepers
pub mod Marks
pub mod Hosts
pub mod Kept
