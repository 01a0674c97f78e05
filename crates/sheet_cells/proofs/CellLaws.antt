-- Cells that compare alike are one cell.
use Rattle.std.proofs.Common.{◌≡◌, ◌≢◌, ℕ, Bool, true, false, refl, ap, sym}
use Rattle.std.specs.Ordering.{nat_cmp, ordering_then, is_eq}
use Rattle.std.specs.declared.cmp.Ordering.{Ordering}
use Rattle.std.specs.declared.cmp.Ordering.TheVariants.{Less, Equal, Greater}
use Rattle.std.specs.BTreeMap.{is_at}
use Rattle.std.proofs.lemmas.Map.Lookups.{CmpEqualImpliesEq, exact_pairs, exact_unsigned}
use Rattle.sheet_cells.specs.declared.cells.CellRef.{CellRef}
use Rattle.sheet_cells.specs.Cells.{cell_cmp}

pub exact_cells : CmpEqualImpliesEq cell_cmp
exact_cells a b h =
    ap (λ (p : ℕ × (ℕ × ℕ)). record { part = p.0; row = p.1.0; col = p.1.1 })
    (exact_pairs nat_cmp (λ (x y : ℕ × ℕ). ordering_then (nat_cmp x.0 y.0) (nat_cmp x.1 y.1)) exact_unsigned (exact_pairs nat_cmp nat_cmp exact_unsigned exact_unsigned)
    (a.part, (a.row, a.col)) (b.part, (b.row, b.col)) h)

pub equal_from_is_eq : (o : Ordering) → is_eq o ≡ true → o ≡ Equal
equal_from_is_eq Less h = cc
equal_from_is_eq Equal h = refl
equal_from_is_eq Greater h = cc

pub false_from_not : (b : Bool) → (b ≡ true → ⊥) → b ≡ false
false_from_not true h = absurd (h refl)
false_from_not false h = refl

-- another cell is not at this one's position
pub other_cell : (at other : CellRef) → other ≢ at → is_at (cell_cmp at) other ≡ false
other_cell at other differs =
    false_from_not (is_at (cell_cmp at) other) (λ e. differs (sym (exact_cells at other (equal_from_is_eq (cell_cmp at other) e))))
