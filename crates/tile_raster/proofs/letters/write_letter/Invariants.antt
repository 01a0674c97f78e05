use Rattle.std.proofs.Common.{◌-◌, ◌/◌, ◌&&◌}
use Rattle.kit_trait.specs.Pictures.{x_at, y_at}
use Rattle.bitmap_font.specs.Glyphs.{dot_of}
use Rattle.tile_raster.specs.Lettering.{black}
use Rattle.tile_raster.specs.Bytes.{AreSet}
use Rattle.tile_raster.specs.Spans.{in_span}
use Rattle.tile_raster.proofs.letters.write_letter.Given as goal

abbrev pub invariant-loop-j : goal.invariant-loop-j
invariant-loop-j l =
    AreSet l.area (λ i j. in_span l.initial.j l.j j && (in_span l.columns.first l.columns.end i && dot_of l.c ((x_at l.area i - l.left) / 15) ((y_at l.area j - l.y) / 15))) black l.initial.rgba l.rgba
