-- The ids of the open documents.
use Rattle.std.specs.Prelude.{ℕ, ◌+◌, ◌≤◌, List, [], ◌∷◌}
use Rattle.hall_machine.specs.Machine.{Desk, Stage}

-- the documents stand in the order of their ids, each once, all from low on and below high
abbrev pub AreRising : ℕ → List Desk → ℕ → Type 0
AreRising low [] high = low ≤ high
AreRising low (x ∷ xs) high = (low ≤ x.doc) × AreRising (x.doc + 1) xs high

-- in a state they are below the next id
abbrev pub Rises : Stage → Type 0
Rises s = AreRising 0 s.desks s.next
