use Rattle.std.proofs.Common.{◌≡◌, ◌≤◌, take}
use Rattle.sheet_cells.specs.References.{column_number}
use Rattle.sheet_cells.proofs.references.column_number.Given as goal

abbrev pub invariant-loop-letter : goal.invariant-loop-letter
invariant-loop-letter l = record {
  so_far : l.number ≡ column_number (take l.letter-index l.letters);
  none : l.letter-index ≡ 0 → l.number ≡ 0;
  one : l.letter-index ≤ 1 → l.number ≤ 159;
  small : l.number ≤ 4293;
}
