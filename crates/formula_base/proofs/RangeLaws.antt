-- The cells of a range come by rows and then columns, each once.
use Rattle.std.proofs.Common.{◌≡◌, ℕ, zero, suc, ◌+◌, ◌-◌, ◌<◌, min, max, List, [], ◌∷◌, ◌++◌, ap, ◌∙◌, arith}
use Rattle.std.specs.List.{flat_map, range_with_len, AllByRecursion}
use Rattle.std.specs.List.Sorted.{IsStrictlySortedBy}
use Rattle.std.specs.Ordering.{nat_cmp, ordering_then}
use Rattle.std.specs.declared.cmp.Ordering.{Ordering}
use Rattle.std.specs.declared.cmp.Ordering.TheVariants.{Less, Equal}
use Rattle.formula_base.specs.Ranges.{Position, position_cmp, row_cells, cells_between}

-- all cells of a list come behind a cell
abbrev pub IsBelow : Position → List Position → Type 0
IsBelow p positions = AllByRecursion (λ q. position_cmp p q ≡ Less) positions

pub below_append : (p : Position) (xs ys : List Position) → IsBelow p xs → IsBelow p ys
    → IsBelow p (xs ++ ys)
below_append p [] ys first second = second
below_append p (x ∷ xs) ys first second = (first.0, below_append p xs ys first.1 second)

-- lists in order one after the other, where all of the second come behind each of the first
pub sorted_append : (xs ys : List Position) → IsStrictlySortedBy position_cmp xs
    → IsStrictlySortedBy position_cmp ys → AllByRecursion (λ p. IsBelow p ys) xs
    → IsStrictlySortedBy position_cmp (xs ++ ys)
unfolding IsStrictlySortedBy
sorted_append [] ys first second apart = second
sorted_append (x ∷ xs) ys first second apart =
    (below_append x xs ys first.0 apart.0, sorted_append xs ys first.1 second apart.1)

less_number : (a b : ℕ) → a < b → nat_cmp a b ≡ Less
less_number a b h = grind arith

same_number : (a : ℕ) → nat_cmp a a ≡ Equal
same_number a = grind arith

-- a cell of a row comes before those with greater columns
below_row : (row column low n : ℕ) → column < low
    → IsBelow (row, column) (row_cells (range_with_len low n) row)
below_row row column low zero h = tt
below_row row column low (suc n) h = (
  ap (λ (o : Ordering). ordering_then o (nat_cmp column low)) (same_number row)
      ∙ less_number column low h,
  below_row row column (low + 1) n (omega (arith, h)),
)

sorted_row : (row low n : ℕ)
    → IsStrictlySortedBy position_cmp (row_cells (range_with_len low n) row)
unfolding IsStrictlySortedBy
sorted_row row low zero = tt
sorted_row row low (suc n) =
    (below_row row low (low + 1) n (omega arith), sorted_row row (low + 1) n)

-- and before those of the rows behind
below_next : (p : Position) (row : ℕ) (columns : List ℕ) → p.0 < row
    → IsBelow p (row_cells columns row)
below_next p row [] h = tt
below_next p row (column ∷ columns) h = (
  ap (λ (o : Ordering). ordering_then o (nat_cmp p.1 column)) (less_number p.0 row h),
  below_next p row columns h,
)

below_rows : (p : Position) (columns : List ℕ) (low n : ℕ) → p.0 < low
    → IsBelow p (flat_map (row_cells columns) (range_with_len low n))
below_rows p columns low zero h = tt
below_rows p columns low (suc n) h =
    below_append p (row_cells columns low)
    (flat_map (row_cells columns) (range_with_len (low + 1) n))
    (below_next p low columns h) (below_rows p columns (low + 1) n (omega (arith, h)))

row_below : (row : ℕ) (columns all : List ℕ) (low n : ℕ) → row < low
    → AllByRecursion (λ p. IsBelow p (flat_map (row_cells all) (range_with_len low n)))
    (row_cells columns row)
row_below row [] all low n h = tt
row_below row (column ∷ columns) all low n h =
    (below_rows (row, column) all low n h, row_below row columns all low n h)

sorted_rows : (left width low n : ℕ)
    → IsStrictlySortedBy position_cmp
    (flat_map (row_cells (range_with_len left width)) (range_with_len low n))
unfolding IsStrictlySortedBy
sorted_rows left width low zero = tt
sorted_rows left width low (suc n) =
    let columns = range_with_len left width in
    sorted_append (row_cells columns low)
    (flat_map (row_cells columns) (range_with_len (low + 1) n))
    (sorted_row low left width) (sorted_rows left width (low + 1) n)
    (row_below low columns columns (low + 1) n (omega arith))

pub sorted_cells : (p q : Position) → IsStrictlySortedBy position_cmp (cells_between p q)
sorted_cells p q =
    sorted_rows (min p.1 q.1) (max p.1 q.1 - min p.1 q.1 + 1) (min p.0 q.0)
    (max p.0 q.0 - min p.0 q.0 + 1)
