use Rattle.bitmap_font.proofs.GlyphFacts.{glyph-below, glyph-above}
use Rattle.bitmap_font.proofs.dots.other_characters_are_boxes.Goals as goal

pub returns-clause-below : goal.returns-clause-below
returns-clause-below c = glyph-below

pub returns-clause-above : goal.returns-clause-above
returns-clause-above c = glyph-above
