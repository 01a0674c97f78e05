pub mod Program
pub mod Hosts
