pub mod Lines
pub mod BookFile
