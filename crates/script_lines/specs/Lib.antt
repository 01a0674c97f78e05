pub mod Lines
pub mod Positions
pub mod Grammar
pub mod Advances
pub mod Records
