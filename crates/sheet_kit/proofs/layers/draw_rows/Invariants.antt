use Rattle.tile_raster.specs.Painting.{Shows}
use Rattle.sheet_kit.specs.Layers.{on_grid_to, lined}
use Rattle.sheet_kit.proofs.layers.draw_rows.Given as goal

abbrev pub invariant-loop-row : goal.invariant-loop-row
invariant-loop-row l = Shows (λ part x y. lined (on_grid_to l.row x y)) l.area l.canvas
