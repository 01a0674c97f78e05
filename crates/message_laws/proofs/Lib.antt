pub mod Texts
pub mod Parts
pub mod Numbers
pub mod KindLemmas
pub mod Lines
pub mod Lookups
pub mod Again
pub mod BoundLemmas
