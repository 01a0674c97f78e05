use Rattle.std.proofs.Common.{◌≡◌}
use Rattle.tile_key.specs.Visible.{rows_of}
use Rattle.tile_key.proofs.seen.keys_of.Given as goal

abbrev pub invariant-loop-row : goal.invariant-loop-row
invariant-loop-row l = l.keys.items ≡ rows_of l.part l.zoom l.grid.first l.grid.columns l.grid.top l.row
