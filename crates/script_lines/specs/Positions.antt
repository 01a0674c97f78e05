-- Where a script stands.
use Rattle.std.specs.Prelude.{ℕ, List, Option}

-- the file that its links open, the links that were used, and those of them that were dropped, in order
pub record Position : Type 0 where
  pub file : Option (List ℕ)
  pub used : List ℕ
  pub dropped : List ℕ
