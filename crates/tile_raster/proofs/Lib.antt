pub mod BlockFacts
pub mod FrontFacts
pub mod LetterFacts
pub mod SpanFacts
pub mod StrokeFacts
