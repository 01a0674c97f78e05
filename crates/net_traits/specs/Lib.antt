pub mod Clocks
pub mod Nets
