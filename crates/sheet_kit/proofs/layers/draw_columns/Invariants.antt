use Rattle.tile_raster.specs.Painting.{Shows}
use Rattle.sheet_kit.specs.Layers.{on_columns, lined}
use Rattle.sheet_kit.proofs.layers.draw_columns.Given as goal

abbrev pub invariant-loop-col : goal.invariant-loop-col
invariant-loop-col l = Shows (λ part x y. lined (on_columns l.col x y)) l.area l.canvas
