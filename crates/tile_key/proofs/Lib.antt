pub mod GridFacts
pub mod GroupFacts
pub mod PlaceFacts
pub mod SpanFacts
pub mod VisibleFacts
