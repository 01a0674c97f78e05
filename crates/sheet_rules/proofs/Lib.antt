pub mod ChangedCells
pub mod Covering
pub mod CursorLaws
pub mod CutLaws
pub mod Soundness
pub mod Typings
