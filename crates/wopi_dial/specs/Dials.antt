-- What dialling and hanging up do to the talks that a dial tells.
use Rattle.std.specs.Prelude.{ℕ, ◌≡◌, ◌+◌, ◌-◌, ◌^◌, min, Bool, true, false, List, [], ◌∷◌, ◌++◌, Option, Some, None, Result, Ok, Err, option_and_then}
use Rattle.std.specs.Option.{option_map}
use Rattle.outside.specs.Wires.{Talk, silence}
use Rattle.wopi_dial.specs.declared.dials.DialFault.{DialFault}
use Rattle.wopi_dial.specs.declared.dials.DialFault.TheVariants.{Failed, Memory as NoMemory}

-- what a dial tells: the talks that were hung up, in order, and how often it was dialled
pub record DialTold : Type 0 where
  pub talks : List Talk
  pub dials : ℕ

-- dialled once more; at 2^64 - 1 the count stands still
abbrev pub dialled : DialTold → DialTold
dialled t = record t { dials = min (t.dials + 1) (2 ^ 64 - 1) }

-- one more talk was hung up
abbrev pub hung_up : Talk → DialTold → DialTold
hung_up talk t = record t { talks = t.talks ++ talk ∷ [] }

-- a new wire, which tells where the dial does: nothing was said over it
abbrev pub IsFresh : Option DialTold → Option Talk → Type 0
IsFresh told talk = talk ≡ option_map (λ t. silence) told

-- what the dial tells with the wire's talk, where both tell
abbrev pub with_talk : Option DialTold → Option Talk → Option DialTold
with_talk told talk = option_and_then (λ t. option_map (λ one. hung_up one t) talk) told

-- a dial that failed for another cause than memory
abbrev pub dial_failed : {W : Type 0} → Result W DialFault → Bool
dial_failed (Ok wire) = false
dial_failed (Err Failed) = true
dial_failed (Err NoMemory) = false

-- a dial in memory: the bytes that the wires to come will give, what it tells, how many are dialled and not hung up, how many bytes a wire gives at most in one receive, how many may be
-- sent over one, and the count of faults
pub record Booth : Type 0 where
  pub waiting : List (List ℕ)
  pub told : DialTold
  pub away : ℕ
  pub pace : ℕ
  pub room : ℕ
  pub faults : ℕ
