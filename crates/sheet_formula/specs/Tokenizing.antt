-- What was found at the front of a text, and where it ends.
use Rattle.std.specs.Prelude.{◌≡◌, ◌<◌, ◌≤◌, ℕ, length, drop, Option, Some, None, Result, Ok, Err}
use Rattle.sheet_formula.specs.declared.stop.Stop.{Stop}
use Rattle.sheet_formula.specs.declared.stop.Stop.TheVariants.{Memory, NoFormula}
use Rattle.sheet_formula.specs.Tokens.{Text}

-- what was found, with the number of characters that it takes, is what reading gives
abbrev pub Finds : {A : Type 0} → Option (A × Text) → Text → Option (A × ℕ) → Type 0
Finds read text (Some found) = (read ≡ Some (found.0, drop found.1 text)) × (0 < found.1) × (found.1 ≤ length text)
Finds read text None = read ≡ None

-- the same, unless memory ran out
abbrev pub FindsOrStops : {A : Type 0} → Option (A × Text) → Text → Result (A × ℕ) Stop → Type 0
FindsOrStops read text (Ok found) = (read ≡ Some (found.0, drop found.1 text)) × (0 < found.1) × (found.1 ≤ length text)
FindsOrStops read text (Err NoFormula) = read ≡ None
FindsOrStops read text (Err Memory) = Unit {0}

-- what was made is what reading gives, unless memory ran out
abbrev pub Makes : {A X : Type 0} → (X → A) → Option A → Result X Stop → Type 0
Makes seen read (Ok made) = read ≡ Some (seen made)
Makes seen read (Err NoFormula) = read ≡ None
Makes seen read (Err Memory) = Unit {0}
