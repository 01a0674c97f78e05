pub mod ServedWires
pub mod Runs
