use Rattle.std.proofs.Common.{◌-◌, ◌/◌, ◌&&◌, nat_eq}
use Rattle.kit_trait.specs.Pictures.{x_at}
use Rattle.bitmap_font.specs.Glyphs.{dot_of}
use Rattle.tile_raster.specs.Lettering.{black}
use Rattle.tile_raster.specs.Bytes.{AreSet}
use Rattle.tile_raster.specs.Spans.{in_span}
use Rattle.tile_raster.proofs.letters.write_row.Given as goal

abbrev pub invariant-loop-i : goal.invariant-loop-i
invariant-loop-i l =
    AreSet l.area (λ k j. nat_eq j l.row && (in_span l.fn.columns.first l.i k && dot_of l.c ((x_at l.area k - l.left) / 15) l.dots)) black l.initial.rgba l.rgba
