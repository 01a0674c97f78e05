use Rattle.std.proofs.Common.{◌≡◌}
use Rattle.sheet_rules.specs.Cuts.{texts_in_rows}
use Rattle.sheet_kit.proofs.cuts.texts_of.Given as goal

abbrev pub invariant-loop-n : goal.invariant-loop-n
invariant-loop-n l = l.texts.items ≡ texts_in_rows l.book l.part l.row l.col l.cols l.n
