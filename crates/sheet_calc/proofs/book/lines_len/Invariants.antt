use Rattle.std.proofs.Common.{◌≡◌, ◌+◌, ◌*◌, ◌^◌, ◌≤◌, length, drop}
use Rattle.sheet_calc.specs.FileText.{all_lines}
use Rattle.sheet_calc.proofs.book.lines_len.Given as goal

abbrev pub invariant-loop-number : goal.invariant-loop-number
invariant-loop-number l = record {
  told : l.total + length (all_lines l.number (drop l.number l.parts)) ≡ length (all_lines 0 l.parts);
  small : l.total ≤ l.number * 2 ^ 31;
}
