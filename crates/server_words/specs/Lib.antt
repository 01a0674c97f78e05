pub mod Hosts
pub mod Serves
