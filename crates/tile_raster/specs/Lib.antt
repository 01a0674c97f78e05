pub mod Bytes
pub mod Lettering
pub mod Painting
pub mod Spans
pub mod Strokes
