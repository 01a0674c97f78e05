pub mod Rectangles
pub mod Cells
