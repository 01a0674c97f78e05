pub mod FrontFacts
pub mod PartFacts
pub mod RowFacts
pub mod RunFacts
pub mod SameFacts
