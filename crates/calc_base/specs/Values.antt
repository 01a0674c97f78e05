-- Values from scratch. `step` gives the value of a cell by the values of the cells that it reads, and `error` is what a circular cell has.
use Rattle.std.specs.Prelude.{ℕ, zero, suc, Bool, List, length, if◌then◌else◌}
use Rattle.calc_base.specs.Walks.{circular}

-- the value of a cell by the values of the cells that it reads, found in the same way, so many levels deep
abbrev pub value_within : {K V : Type 0} → V → (K → Bool) → (K → (K → V) → V) → ℕ → K → V
value_within error is_circular step zero c = error
value_within error is_circular step (suc n) c = if is_circular c then error else step c (value_within error is_circular step n)

-- the value of a cell: from a cell that isn't circular no walk has more steps than there are formula cells, so one level more is deep enough
unfoldable pub value : {K V : Type 0} → V → (K → List K) → List K → (K → (K → V) → V) → K → V
value error reads formulas step c = value_within error (circular reads formulas) step (suc (length formulas)) c
