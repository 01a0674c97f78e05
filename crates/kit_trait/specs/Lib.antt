pub mod Keys
pub mod Patch
pub mod PatchLaws
pub mod PatchSeen
pub mod Pictures
pub mod Rules
