use Rattle.std.proofs.Common.{◌&&◌, nat_eq}
use Rattle.tile_raster.specs.Painting.{colour_of}
use Rattle.tile_raster.specs.Bytes.{AreSet}
use Rattle.tile_raster.specs.Spans.{in_span}
use Rattle.tile_raster.proofs.fills.fill_row.Given as goal

abbrev pub invariant-loop-i : goal.invariant-loop-i
invariant-loop-i l = AreSet l.area (λ k j. nat_eq j l.row && in_span l.fn.columns.first l.i k) (colour_of l.colour) l.initial.rgba l.rgba
