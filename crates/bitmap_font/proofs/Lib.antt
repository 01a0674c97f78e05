pub mod GlyphFacts
