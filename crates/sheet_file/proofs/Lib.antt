pub mod CutLaws
pub mod LineLaws
pub mod Words
pub mod Spelled
pub mod Gathered
pub mod Written
pub mod ReadLaws
pub mod FileLaws
