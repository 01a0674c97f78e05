use Rattle.std.proofs.Common.{◌≡◌, ◌++◌}
use Rattle.sheet_rules.specs.Cuts.{texts_in_row}
use Rattle.sheet_kit.proofs.cuts.push_row.Given as goal

abbrev pub invariant-loop-n : goal.invariant-loop-n
invariant-loop-n l = l.texts.items ≡ l.initial.texts.items ++ texts_in_row l.book l.part l.row l.col l.n
