use Rattle.std.proofs.Common.{◌≡◌, ◌+◌, ◌*◌, ◌^◌, ◌<◌, drop}
use Rattle.cell_damage.specs.declared.limits.TheConstants.{CELL_WIDTH, CELL_HEIGHT}
use Rattle.cell_damage.specs.Cells.{put_before, stretches}
use Rattle.cell_damage.proofs.cells.first_stretch.Given as goal

abbrev pub invariant-loop-i : goal.invariant-loop-i
invariant-loop-i l = record {
  first : stretches l.cells ≡ put_before (record { row = l.row; col = l.col; count = l.i }) (stretches (drop l.i l.cells));
  lower : (l.row + 1) * CELL_HEIGHT < 2 ^ 32;
  right : (l.col + l.i) * CELL_WIDTH < 2 ^ 32;
}
