-- Scripts that come to their end.
use Rattle.std.specs.Prelude.{ℕ, ◌≡◌, ◌<◌, ◌≤◌, ◌+◌, List, ◌∷◌, ◌++◌, length, Some, ◌⊎◌}
use Rattle.std.specs.List.{AllByRecursion}
use Rattle.script_lines.specs.Positions.{Position}
use Rattle.script_lines.specs.Grammar.{Ends}
use Rattle.script_lines.specs.Grammar.{role, position_after}
use Rattle.script_lines.specs.Lines.{IsLine, joined}
use Rattle.script_run.specs.Transcript.{budget}

-- The bytes are lines that all act, then the line `end` within the budget: up to its newline, with anything
-- behind it, or up to the end of the bytes.
pub record HasEnd (p : Position) (bytes : List ℕ) : Type 0 where
  pub lines : List (List ℕ)
  pub position : Position
  pub last : List ℕ
  pub each : AllByRecursion IsLine lines
  pub stands : position_after p lines ≡ Some position
  pub one : IsLine last
  pub ends : role position last ≡ Ends
  pub spelled : ((behind : List ℕ) × (bytes ≡ joined lines ++ (last ++ 10 ∷ behind)) × (length (joined lines) + (length last + 1) ≤ budget))
      ⊎ ((bytes ≡ joined lines ++ last) × (0 < length last) × (length bytes < budget))
