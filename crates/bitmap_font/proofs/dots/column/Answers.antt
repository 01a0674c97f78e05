use Rattle.std.proofs.Common.{arith, refl}
use Rattle.bitmap_font.proofs.GlyphFacts.{glyph-printed, glyph-below, glyph-above, box_columns}
use Rattle.bitmap_font.proofs.dots.column.Goals as goal
use Rattle.bitmap_font.proofs.dots.column.Goals.{in_default-via-then-c-lt32, in_default-via-else-c-lt32+else-c-lt127}

pub returns-in-32-to-126 : goal.returns-in-32-to-126
returns-in-32-to-126 c = rw (c.glyphs.ensures, glyph-printed c.args.c (omega arith) (omega arith)) refl

pub returns-in_default : goal.returns-in_default
returns-in_default c =
    elim c.in_default.branch [
      | in_default-via-then-c-lt32 w ↦ rw (glyph-below c.args.c (omega arith), box_columns) refl
      | in_default-via-else-c-lt32+else-c-lt127 w ↦ rw (glyph-above c.args.c (omega arith), box_columns) refl
    ]
