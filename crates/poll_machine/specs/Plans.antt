-- Plans: what is done one after the other, where answers and the state decide how it goes on.
use Rattle.std.specs.Prelude.{◌≡◌, Bool, true, false, List, [], ◌∷◌, ◌++◌}
use Rattle.std.specs.List.{AllByRecursion}
use Rattle.poll_machine.specs.Runs.{Run}

-- a plan over these states and events
pub data Plan (X E : Type 0) : Type 1 where
  -- nothing is done
  Rests : Plan X E
  -- this can't come
  Never : Plan X E
  -- one event happens
  Makes : (event : E) → Plan X E
  -- one plan, and then the other
  Then : (first later : Plan X E) → Plan X E
  -- some answer comes, and the plan goes on with it
  Learns : {A : Type 0} → (next : A → Plan X E) → Plan X E
  -- the state is looked at, and the plan goes on with what it is
  Looks : (next : X → Plan X E) → Plan X E
  -- some number of events of this kind happen, up to a state that passes
  Until : (kind : E → Bool) (passes : X → Bool) → Plan X E

-- the events carry out the plan, from one state to another, each by a step of this relation
abbrev pub Follows : {X E : Type 0} → (X → E → X → Type 0) → Plan X E → X → List E → X → Type 0
Follows {X} {E} Step Rests old events new = (events ≡ []) × (new ≡ old)
Follows {X} {E} Step Never old events new = ⊥
Follows {X} {E} Step (Makes event) old events new = (events ≡ event ∷ []) × Step old event new
Follows {X} {E} Step (Then first later) old events new =
    (mid : X) × (before : List E) × (behind : List E)
    × (events ≡ before ++ behind) × Follows Step first old before mid
    × Follows Step later mid behind new
Follows {X} {E} Step (Learns {A} next) old events new = (answer : A)
    × Follows Step (next answer) old events new
Follows {X} {E} Step (Looks next) old events new = Follows Step (next old) old events new
Follows {X} {E} Step (Until kind passes) old events new =
    AllByRecursion (λ event. kind event ≡ true) events × Run Step old events new
    × (passes new ≡ true)

-- each of these things in order, by its own plan
abbrev pub each : {X E A : Type 0} → (A → Plan X E) → List A → Plan X E
each plan [] = Rests
each plan (a ∷ rest) = Then (plan a) (each plan rest)

-- the one plan where this holds, and the other where it doesn't
abbrev pub choose : {X E : Type 0} → Bool → Plan X E → Plan X E → Plan X E
choose true plan other = plan
choose false plan other = other
