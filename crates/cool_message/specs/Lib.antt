pub mod Command
pub mod Names
pub mod Table
pub mod Reading
pub mod Writing
pub mod Asked
