use Rattle.std.proofs.Common.{◌≡◌, ◌-◌, ◌++◌}
use Rattle.std.specs.List.{range_with_len}
use Rattle.formula_base.specs.Ranges.{row_cells}
use Rattle.formula_base.proofs.spans.push_row.Given as goal

abbrev pub invariant-loop-column : goal.invariant-loop-column
invariant-loop-column l = l.cells.items ≡ l.fn.cells.items ++ row_cells (range_with_len l.left (l.column - l.left)) l.row
