use Rattle.std.proofs.Common.{◌≡◌, ◌++◌, drop}
use Rattle.sheet_calc.specs.FileText.{all_lines}
use Rattle.sheet_calc.proofs.book.write_lines.Given as goal

abbrev pub invariant-loop-number : goal.invariant-loop-number
invariant-loop-number l = l.out.items ++ all_lines l.number (drop l.number l.parts) ≡ l.initial.out.items ++ all_lines 0 l.parts
