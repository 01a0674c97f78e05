use Rattle.std.proofs.Common.{◌≡◌, ◌-◌, ◌+◌, min}
use Rattle.std.specs.List.{range_with_len, flat_map}
use Rattle.formula_base.specs.Ranges.{row_cells}
use Rattle.formula_base.proofs.spans.cells_between.Given as goal

abbrev pub invariant-loop-row : goal.invariant-loop-row
invariant-loop-row l =
    l.cells.items ≡ flat_map (row_cells (range_with_len l.left (l.right - l.left + 1))) (range_with_len (min l.fn.first.0 l.fn.last.0) (l.row - min l.fn.first.0 l.fn.last.0))
