-- A wire that gives what was sent over it.
use Rattle.std.specs.Prelude.{ℕ, ◌≡◌, true, List, [], ◌++◌}
use Rattle.outside.specs.Wires.{Talk}

-- What was said over it, and its count of faults.
pub record LoopSeen : Type 0 where
  pub talk : Talk
  pub faults : ℕ

-- What was received is a front of what was sent, and the end comes after the last byte alone.
abbrev pub IsLoop : Talk → Type 0
IsLoop t = (more : List ℕ) × (t.received ++ more ≡ t.sent) × (t.ended ≡ true → more ≡ [])
