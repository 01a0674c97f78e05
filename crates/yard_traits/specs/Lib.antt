pub mod Works
pub mod Yards
