use Rattle.std.proofs.Common.{length, ◌-◌, ◌≤◌}
use Rattle.sheet_formula.proofs.Turning.{Tokenizes}
use Rattle.sheet_formula.proofs.tokenizing.tokenize.Given as goal

abbrev pub invariant-loop-at : goal.invariant-loop-at
invariant-loop-at l = record { told : Tokenizes l.text l.at l.tokens.items; within : l.at ≤ length l.text }

abbrev pub decreases-loop-at : goal.decreases-loop-at
decreases-loop-at l = length l.text - l.at
