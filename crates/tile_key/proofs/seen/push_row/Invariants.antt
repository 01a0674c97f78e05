use Rattle.std.proofs.Common.{◌≡◌, ◌++◌}
use Rattle.tile_key.specs.Visible.{row_of}
use Rattle.tile_key.proofs.seen.push_row.Given as goal

abbrev pub invariant-loop-column : goal.invariant-loop-column
invariant-loop-column l = l.keys.items ≡ l.initial.keys.items ++ row_of l.part l.zoom l.grid.first l.row l.column
