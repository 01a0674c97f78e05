-- What a source and a sink hold before and after they were used.
use Rattle.std.specs.Prelude.{ℕ, ◌≡◌, List, Option, Some}

-- a source: the bytes that are left in it, where it tells them, and its count of faults, before and now
pub record SourceUse : Type 0 where
  pub left : Option (List ℕ)
  pub left_now : Option (List ℕ)
  pub faults : ℕ
  pub faults_now : ℕ

-- a sink: the bytes that were written to it, where it tells them, and its count of faults, before and now
pub record SinkUse : Type 0 where
  pub written : Option (List ℕ)
  pub written_now : Option (List ℕ)
  pub faults : ℕ
  pub faults_now : ℕ

-- how a source of a type was used, by what tells its bytes and its count
abbrev pub source_use : {S : Type 0} → (left : S → Option (List ℕ)) → (faults : S → ℕ) → (old new : S) → SourceUse
source_use left faults old new = record { left = left old; left_now = left new; faults = faults old; faults_now = faults new }

-- how a sink of a type was used
abbrev pub sink_use : {T : Type 0} → (written : T → Option (List ℕ)) → (faults : T → ℕ) → (old new : T) → SinkUse
sink_use written faults old new = record { written = written old; written_now = written new; faults = faults old; faults_now = faults new }

-- the source tells what was left in it
abbrev pub IsTold : SourceUse → Type 0
IsTold source = (left : List ℕ) × (source.left ≡ Some left)

-- the counts of faults of both sinks are the same, before and now
abbrev pub CountAlike : SinkUse → SinkUse → Type 0
CountAlike sink other = (other.faults ≡ sink.faults) × (other.faults_now ≡ sink.faults_now)
