pub mod Places
pub mod Kept
pub mod Rising
pub mod Owners
pub mod Steps
pub mod Lacks
