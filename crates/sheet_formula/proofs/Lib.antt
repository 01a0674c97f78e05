pub mod Repeats
pub mod Quoting
pub mod Turning
pub mod Wholes
