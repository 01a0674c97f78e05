-- Walks from cell to cell along what each cell reads.
use Rattle.std.specs.Prelude.{ℕ, zero, suc, Bool, true, List, length}
use Rattle.std.specs.List.{list_any}

-- whether a walk of this many steps begins at the cell: each step goes to a cell that the last one reads
abbrev pub walks : {K : Type 0} → (K → List K) → ℕ → K → Bool
walks reads zero c = true
walks reads (suc n) c = list_any (walks reads n) (reads c)

-- a cell is circular where a walk begins at it that has more steps than there are formula cells
unfoldable pub circular : {K : Type 0} → (K → List K) → List K → K → Bool
circular reads formulas c = walks reads (suc (length formulas)) c
