pub mod Refusals
pub mod Judging
pub mod Stages
pub mod Driving
