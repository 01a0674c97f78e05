-- What a read takes off a source and what a write adds to a sink, where they tell it.
use Rattle.std.specs.Prelude.{ℕ, ◌≡◌, ◌<◌, ◌≤◌, List, [], ◌++◌, length, take, Option}
use Rattle.std.specs.Option.{option_map, IfSome}
use Rattle.outside.specs.declared.streams.ReadStep.{ReadStep}
use Rattle.outside.specs.declared.streams.ReadStep.TheVariants.{Read, End, Failed}
use Rattle.outside.specs.declared.streams.WriteStep.{WriteStep}
use Rattle.outside.specs.declared.streams.WriteStep.TheVariants.{Wrote, Failed as NotWritten}

-- What was left is these bytes and then what is left now. Both are told or neither is.
abbrev pub Takes : Option (List ℕ) → List ℕ → Option (List ℕ) → Type 0
Takes old bytes new = old ≡ option_map (λ rest. bytes ++ rest) new

-- What is written now is what was written before and then these bytes. Both are told or neither is.
abbrev pub Adds : Option (List ℕ) → List ℕ → Option (List ℕ) → Type 0
Adds old bytes new = new ≡ option_map (λ before. before ++ bytes) old

-- Where the bytes left are told, there are none.
abbrev pub IsAtEnd : Option (List ℕ) → Type 0
IsAtEnd left = IfSome left (λ bytes. bytes ≡ [])

-- A read gives at least one and at most as many bytes as fit, the first of those left, and takes them off.
-- An end comes only where none is left. A fault leaves them all.
abbrev pub Reads : Option (List ℕ) → Option (List ℕ) → ReadStep → List ℕ → Type 0
Reads old new (Read count) into = (0 < count) × (count ≤ length into) × Takes old (take count into) new
Reads old new End into = (new ≡ old) × IsAtEnd old
Reads old new Failed into = new ≡ old

-- A write takes a front of the piece, not an empty one of a piece that has bytes. A fault writes nothing.
abbrev pub Writes : Option (List ℕ) → Option (List ℕ) → WriteStep → List ℕ → Type 0
Writes old new (Wrote count) piece = (count ≤ length piece) × (0 < length piece → 0 < count) × Adds old (take count piece) new
Writes old new NotWritten piece = new ≡ old

-- A sink in memory: the bytes that it took, how many it has room for in all, and its count of faults.
pub record Taken : Type 0 where
  pub bytes : List ℕ
  pub room : ℕ
  pub faults : ℕ
