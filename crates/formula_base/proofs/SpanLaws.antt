-- One more cell of a row, and one more row.
use Rattle.std.proofs.Common.{◌≡◌, ℕ, suc, zero, ◌+◌, ◌-◌, ◌≤◌, min, max, List, [], ◌∷◌, ◌++◌, refl, ap, sym, ◌∙◌, arith, append_assoc, add-zero}
use Rattle.std.specs.List.{flat_map, range_with_len}
use Rattle.std.proofs.lemmas.List.FromFn.{map-range_with_len_more}
use Rattle.std.proofs.lemmas.List.Concat.{flat_map-append}
use Rattle.std.proofs.lemmas.List.{append-nil}
use Rattle.formula_base.specs.Ranges.{Position, row_cells, span, cells_between}

pub row_more : (xs : List Position) (row left column : ℕ) → left ≤ column → (xs ++ row_cells (range_with_len left (column - left)) row) ++ (row, column) ∷ [] ≡ xs ++ row_cells (range_with_len left (column - left + 1)) row
row_more xs row left column h =
    append_assoc xs (row_cells (range_with_len left (column - left)) row) ((row, column) ∷ [])
    ∙ ap (λ (ys : List Position). xs ++ ys) (sym (map-range_with_len_more (λ (c : ℕ). (row, c)) left (column - left) column (omega arith)))

-- the numbers with one more at their end
pub range_more : (a n : ℕ) → range_with_len a (n + 1) ≡ range_with_len a n ++ (a + n) ∷ []
range_more a zero = rw add-zero refl
range_more a (suc n) =
    let e : suc n + 1 ≡ suc (n + 1) = omega arith in
    let m : (a + 1) + n ≡ a + suc n = omega arith in
    ap (range_with_len a) e ∙ ap (λ (ys : List ℕ). a ∷ ys) (range_more (a + 1) n ∙ ap (λ (k : ℕ). range_with_len (a + 1) n ++ k ∷ []) m)

pub rows_more : (f : ℕ → List Position) (low row : ℕ) → low ≤ row → flat_map f (range_with_len low (row - low)) ++ f row ≡ flat_map f (range_with_len low (row - low + 1))
rows_more f low row h =
    let at : low + (row - low) ≡ row = omega arith in
    sym (ap (flat_map f) (range_more low (row - low)) ∙ flat_map-append f (range_with_len low (row - low)) ((low + (row - low)) ∷ [])
    ∙ ap (λ (ys : List Position). flat_map f (range_with_len low (row - low)) ++ ys) (ap (λ (k : ℕ). f k ++ []) at ∙ append-nil (f row)))

-- all rows
pub rows_done : (items : List Position) (p q : Position) (left right row : ℕ) → items ≡ flat_map (row_cells (range_with_len left (right - left + 1))) (range_with_len (min p.0 q.0) (row - min p.0 q.0))
    → left ≡ min p.1 q.1 → right ≡ max p.1 q.1 → row ≡ max p.0 q.0 + 1 → items ≡ cells_between p q
rows_done items p q left right row told l r e =
    let columns : range_with_len left (right - left + 1) ≡ span p.1 q.1 = cc in
    let rows : row - min p.0 q.0 ≡ max p.0 q.0 - min p.0 q.0 + 1 = omega arith in
    told ∙ ap (λ (cs : List ℕ). flat_map (row_cells cs) (range_with_len (min p.0 q.0) (row - min p.0 q.0))) columns
    ∙ ap (λ (n : ℕ). flat_map (row_cells (span p.1 q.1)) (range_with_len (min p.0 q.0) n)) rows
