-- When a fault may be answered: only where the object's own count of faults rose in that call.
use Rattle.std.specs.Prelude.{ℕ, ◌≡◌, ◌+◌, ◌-◌, ◌^◌, ◌≤◌, min}

-- The count rose, or it stands at the end of its type, where it stays and counts as risen.
abbrev pub Rose : ℕ → ℕ → Type 0
Rose before now = min (before + 1) (2 ^ 64 - 1) ≤ now

-- The count never falls. It rose where the call failed, and is the same where it didn't.
pub record HasCause (before now : ℕ) (Failed : Type 0) : Type 0 where
  pub later : before ≤ now
  pub failed : Failed → Rose before now
  pub kept : (Failed → ⊥) → now ≡ before
