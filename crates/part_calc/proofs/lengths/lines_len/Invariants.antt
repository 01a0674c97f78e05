use Rattle.std.proofs.Common.{◌≡◌, ◌+◌, length}
use Rattle.part_calc.specs.Text.{part_lines}
use Rattle.part_calc.proofs.lengths.lines_len.Given as goal

abbrev pub invariant-loop-position : goal.invariant-loop-position
invariant-loop-position l = l.total + length (part_lines 0 l.position-iterator) ≡ length (part_lines 0 l.cells.entries)
