use Rattle.std.proofs.Common.{◌≡◌, ◌++◌}
use Rattle.std.specs.List.{AllByRecursion}
use Rattle.part_calc.specs.Kept.{IsEntry}
use Rattle.part_calc.specs.Text.{part_lines}
use Rattle.part_calc.proofs.lines.write_lines.Given as goal

abbrev pub invariant-loop-position : goal.invariant-loop-position
invariant-loop-position l = record {
  told : l.out.items ++ part_lines l.number l.position-iterator ≡ l.initial.out.items ++ part_lines l.number l.cells.entries;
  left : AllByRecursion IsEntry l.position-iterator;
}
