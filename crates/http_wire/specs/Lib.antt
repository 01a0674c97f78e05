pub mod Messages
pub mod GrowLaws
pub mod Kinds
pub mod Following
