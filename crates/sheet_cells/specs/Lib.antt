pub mod References
pub mod Plains
pub mod Cells
