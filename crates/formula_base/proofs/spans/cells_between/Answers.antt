use Rattle.std.proofs.Common.{◌≡◌, ◌+◌, ◌-◌, ◌≤◌, min, List, ◌++◌, ap, ◌∙◌, arith}
use Rattle.std.specs.List.{range_with_len}
use Rattle.formula_base.specs.Ranges.{Position, row_cells}
use Rattle.formula_base.proofs.SpanLaws.{rows_more, rows_done}
use Rattle.formula_base.proofs.spans.cells_between.Goals as goal

pub loop-row-preserved : goal.loop-row-preserved
loop-row-preserved c =
    let low = min c.args.first.0 c.args.last.0 in
    let columns = range_with_len c.min-left.result (c.max-right.result - c.min-left.result + 1) in
    let below : low ≤ c.loop-row.row = omega arith in
    let one : c.loop-row.row + 1 - low ≡ c.loop-row.row - low + 1 = omega arith in
    rw one (c.in_ok-push_row.ensures ∙ ap (λ (cells : List Position). cells ++ row_cells columns c.loop-row.row) c.loop-row.invariant ∙ rows_more (row_cells columns) low c.loop-row.row below)

pub returns : goal.returns
returns c =
    rows_done _ c.args.first c.args.last c.min-left.result c.max-right.result c.loop-row.row c.loop-row.invariant c.min-left.ensures c.max-right.ensures (omega arith)
