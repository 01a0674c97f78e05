-- Runs: steps one after the other, whatever a step is.
use Rattle.std.specs.Prelude.{◌≡◌, List, [], ◌∷◌, ◌++◌}

-- from one state these events lead to another, each by a step of this relation
abbrev pub Run : {X E : Type 0} → (X → E → X → Type 0) → X → List E → X → Type 0
Run {X} {E} Step old [] new = new ≡ old
Run {X} {E} Step old (event ∷ events) new = (mid : X) × Step old event mid × Run Step mid events new

-- the events of several lists, in order
abbrev pub all_events : {E : Type 0} → List (List E) → List E
all_events [] = []
all_events (events ∷ lists) = events ++ all_events lists
