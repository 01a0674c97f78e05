pub mod Counting
pub mod WalkLaws
pub mod ValueLaws
pub mod EditLaws
pub mod Examples
