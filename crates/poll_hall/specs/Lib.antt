-- What a call of the hall says, over the history that it finds.
pub mod Says
pub mod Turned
pub mod Ports
