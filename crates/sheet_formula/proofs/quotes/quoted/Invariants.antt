use Rattle.std.proofs.Common.{◌≡◌, ◌++◌, length}
use Rattle.std.specs.Prelude.{string_bytes}
use denote.Text.{Utf8}
use denote.Shadow.{shadow}
use Rattle.sheet_formula.specs.Tokens.{Text, quoted, with_front}
use Rattle.sheet_formula.proofs.quotes.quoted.Given as goal

-- says that each `&str` the loop changes is text: keep it, and add clauses with ×
abbrev pub invariant-loop-piece : goal.invariant-loop-piece
invariant-loop-piece l =
    shadow (Utf8 l.rest)
    × (with_front (string_bytes l.words) (quoted l.rest) ≡ quoted l.fn.text)
    × ((taken : Text) × (l.fn.text ≡ taken ++ l.rest))

abbrev pub decreases-loop-piece : goal.decreases-loop-piece
decreases-loop-piece l = length l.rest
