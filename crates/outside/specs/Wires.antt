-- What a wire tells: the bytes that were sent and received over it, and whether it gave an end.
use Rattle.std.specs.Prelude.{ℕ, ◌≡◌, ◌<◌, ◌≤◌, Bool, true, false, ◌||◌, List, [], ◌++◌, length, take, Option}
use Rattle.std.specs.Option.{option_map}
use Rattle.outside.specs.declared.streams.ReadStep.{ReadStep}
use Rattle.outside.specs.declared.streams.ReadStep.TheVariants.{Read, End, Failed}
use Rattle.outside.specs.declared.streams.WriteStep.{WriteStep}
use Rattle.outside.specs.declared.streams.WriteStep.TheVariants.{Wrote, Failed as NotWritten}

-- The bytes that went each way, and whether the end of those received was given.
pub record Talk : Type 0 where
  pub sent : List ℕ
  pub received : List ℕ
  pub ended : Bool

-- A talk in which nothing was said yet.
abbrev pub silence : Talk
silence = record { sent = []; received = []; ended = false }

-- The talk with these bytes sent.
abbrev pub with_sent : List ℕ → Talk → Talk
with_sent bytes t = record t { sent = t.sent ++ bytes }

-- The talk with these bytes received, and the end given where the flag says so.
abbrev pub with_received : List ℕ → Bool → Talk → Talk
with_received bytes ended t = record t { received = t.received ++ bytes; ended = ended || t.ended }

-- These bytes were sent. Both talks are told or neither is.
abbrev pub Says : Option Talk → List ℕ → Option Talk → Type 0
Says old bytes new = new ≡ option_map (with_sent bytes) old

-- These bytes were received, and the end was given where the flag says so.
abbrev pub Hears : Option Talk → List ℕ → Bool → Option Talk → Type 0
Hears old bytes ended new = new ≡ option_map (with_received bytes ended) old

-- A send takes a front of the piece, not an empty one of a piece that has bytes. A fault sends nothing.
abbrev pub Sends : Option Talk → Option Talk → WriteStep → List ℕ → Type 0
Sends old new (Wrote count) piece = (count ≤ length piece) × (0 < length piece → 0 < count) × Says old (take count piece) new
Sends old new NotWritten piece = new ≡ old

-- A receive gives at least one and at most as many bytes as fit, or the end, or a fault and nothing.
abbrev pub Receives : Option Talk → Option Talk → ReadStep → List ℕ → Type 0
Receives old new (Read count) into = (0 < count) × (count ≤ length into) × Hears old (take count into) false new
Receives old new End into = Hears old [] true new
Receives old new Failed into = new ≡ old

-- A wire in memory: what was said, the bytes that it has still to give, how many at most in one
-- receive, how many bytes may be sent in all, and its count of faults.
pub record Held : Type 0 where
  pub talk : Talk
  pub left : List ℕ
  pub pace : ℕ
  pub room : ℕ
  pub faults : ℕ
