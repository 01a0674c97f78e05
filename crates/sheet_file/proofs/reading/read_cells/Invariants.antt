use Rattle.std.proofs.Common.{◌≡◌, ◌+◌, ◌≤◌, length, map, None}
use Rattle.sheet_file.specs.Lines.{lines_of, cell_said}
use Rattle.sheet_file.specs.BookFile.{with_lines}
use Rattle.sheet_file.proofs.reading.read_cells.Given as goal

abbrev pub invariant-loop-rest : goal.invariant-loop-rest
invariant-loop-rest l = record {
  told : with_lines l.draft l.number l.before (map (cell_said l.parts) (lines_of l.rest)) ≡ with_lines l.initial.draft 3 None (map (cell_said l.parts) (lines_of l.lines));
  parts : length l.draft ≡ l.parts;
  room : l.number + length l.rest ≤ 2097155;
}

abbrev pub decreases-loop-rest : goal.decreases-loop-rest
decreases-loop-rest l = length l.rest
