use Rattle.std.proofs.Common.{◌≡◌}
use Rattle.sheet_calc.specs.Books.{text_of}
use Rattle.sheet_rules.specs.Typing.{last_filled}
use Rattle.sheet_inputs.proofs.meanings.row_end.Given as goal

abbrev pub invariant-loop-col : goal.invariant-loop-col
invariant-loop-col l = l.last ≡ last_filled (λ col. text_of l.book (record { part = l.at.part; row = l.at.row; col = col })) l.col
