use Rattle.std.proofs.Common.{◌&&◌}
use Rattle.tile_raster.specs.Painting.{colour_of}
use Rattle.tile_raster.specs.Bytes.{AreSet}
use Rattle.tile_raster.specs.Spans.{in_span}
use Rattle.tile_raster.proofs.fills.fill_points.Given as goal

abbrev pub invariant-loop-j : goal.invariant-loop-j
invariant-loop-j l = AreSet l.area (λ i j. in_span l.initial.j l.j j && in_span l.columns.first l.columns.end i) (colour_of l.colour) l.initial.rgba l.rgba
