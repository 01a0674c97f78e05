-- Stretches of cells, gathered from the left.
use Rattle.std.proofs.Common.{◌≡◌, ℕ, suc, ◌+◌, ◌*◌, ◌^◌, ◌<◌, ◌≤◌, Bool, true, false, ◌&&◌, nat_eq, List, [], ◌∷◌, ◌++◌, length, map, drop, get_or, refl, ap, sym, ◌∙◌, arith, eqb-true, if◌then◌else◌, drop-cons, drop_of_length-le, add-one, subst, zero}
use Rattle.std.specs.List.{AllByRecursion}
use Rattle.std.proofs.lemmas.Bool.{and_parts}
use Rattle.cell_damage.specs.declared.stretches.Stretch.{Stretch}
use Rattle.cell_damage.specs.declared.limits.TheConstants.{CELL_WIDTH}
use Rattle.cell_damage.specs.Cells.{IsInReach, one_cell, is_next, put_before, stretches}

-- a stretch with so many cells more
abbrev pub longer : Stretch → ℕ → Stretch
longer s n = record s { count = s.count + n }

-- where a cell continues a stretch, the longer stretch is continued by what continues the cell
next_same : (s : Stretch) (p : ℕ × ℕ) (t : Stretch) → is_next s (one_cell p) ≡ true → is_next (longer s 1) t ≡ is_next (one_cell p) t
next_same s p t next =
    let parts = and_parts (nat_eq s.row p.0) (nat_eq (s.col + s.count) p.1) next in
    let row : s.row ≡ p.0 = eqb-true s.row p.0 parts.0 in
    let col : s.col + (s.count + 1) ≡ p.1 + 1 = omega (arith, eqb-true (s.col + s.count) p.1 parts.1) in
    ap (λ (r : ℕ). nat_eq r t.row && nat_eq (s.col + (s.count + 1)) t.col) row ∙ ap (λ (c : ℕ). nat_eq p.0 t.row && nat_eq c t.col) col

put_joined : (s : Stretch) (p : ℕ × ℕ) (t : Stretch) (ts : List Stretch) (b : Bool) → is_next (one_cell p) t ≡ b → is_next s (one_cell p) ≡ true
    → put_before s (if b then record (one_cell p) { count = 1 + t.count } ∷ ts else one_cell p ∷ t ∷ ts) ≡ (if b then record s { count = s.count + 1 + t.count } ∷ ts else longer s 1 ∷ t ∷ ts)
put_joined s p t ts true e next = let sum : s.count + (1 + t.count) ≡ s.count + 1 + t.count = omega arith in rw (next, sum) refl
put_joined s p t ts false e next = rw next refl

-- a cell that continues the stretch before it makes it longer
pub put_next : (s : Stretch) (p : ℕ × ℕ) (ts : List Stretch) → is_next s (one_cell p) ≡ true → put_before s (put_before (one_cell p) ts) ≡ put_before (longer s 1) ts
put_next s p [] next = rw next refl
put_next s p (t ∷ ts) next =
    put_joined s p t ts (is_next (one_cell p) t) refl next
    ∙ ap (λ (b : Bool). if b then record s { count = s.count + 1 + t.count } ∷ ts else longer s 1 ∷ t ∷ ts) (sym (next_same s p t next))

put_alone : (s : Stretch) (p : ℕ × ℕ) (t : Stretch) (ts : List Stretch) (b : Bool) → is_next s (one_cell p) ≡ false
    → put_before s (if b then record (one_cell p) { count = 1 + t.count } ∷ ts else one_cell p ∷ t ∷ ts) ≡ s ∷ (if b then record (one_cell p) { count = 1 + t.count } ∷ ts else one_cell p ∷ t ∷ ts)
put_alone s p t ts true apart = rw apart refl
put_alone s p t ts false apart = rw apart refl

-- a cell that doesn't leaves it whole
pub put_apart : (s : Stretch) (p : ℕ × ℕ) (ts : List Stretch) → is_next s (one_cell p) ≡ false → put_before s (put_before (one_cell p) ts) ≡ s ∷ put_before (one_cell p) ts
put_apart s p [] apart = rw apart refl
put_apart s p (t ∷ ts) apart = put_alone s p t ts (is_next (one_cell p) t) apart

-- the stretches from a cell on
stretches_at : (cells : List (ℕ × ℕ)) (i : ℕ) (d : ℕ × ℕ) → i < length cells → stretches (drop i cells) ≡ put_before (one_cell (get_or cells i d)) (stretches (drop (i + 1) cells))
stretches_at cells i d h =
    ap stretches (drop-cons cells i d h)
    ∙ ap (λ (n : ℕ). put_before (one_cell (get_or cells i d)) (stretches (drop n cells))) (sym (add-one i))

-- one more cell of the stretch that the cells begin with
pub first_more : (cells : List (ℕ × ℕ)) (s : Stretch) (i : ℕ) (d : ℕ × ℕ) → i < length cells → is_next s (one_cell (get_or cells i d)) ≡ true → stretches cells ≡ put_before s (stretches (drop i cells)) → stretches cells ≡ put_before (longer s 1) (stretches (drop (i + 1) cells))
first_more cells s i d h next so =
    so ∙ ap (put_before s) (stretches_at cells i d h) ∙ put_next s (get_or cells i d) (stretches (drop (i + 1) cells)) next

-- it ends before a cell that doesn't continue it
pub first_end : (cells : List (ℕ × ℕ)) (s : Stretch) (i : ℕ) (d : ℕ × ℕ) → i < length cells → is_next s (one_cell (get_or cells i d)) ≡ false → stretches cells ≡ put_before s (stretches (drop i cells)) → stretches cells ≡ s ∷ stretches (drop i cells)
first_end cells s i d h apart so =
    so ∙ ap (put_before s) (stretches_at cells i d h) ∙ put_apart s (get_or cells i d) (stretches (drop (i + 1) cells)) apart ∙ ap (λ (ts : List Stretch). s ∷ ts) (sym (stretches_at cells i d h))

-- and where no cell follows
pub first_whole : (cells : List (ℕ × ℕ)) (s : Stretch) (i : ℕ) → length cells ≤ i → stretches cells ≡ put_before s (stretches (drop i cells)) → stretches cells ≡ s ∷ stretches (drop i cells)
first_whole cells s i h so =
    let none = drop_of_length-le cells h in
    so ∙ ap (λ (ps : List (ℕ × ℕ)). put_before s (stretches ps)) none ∙ ap (λ (ps : List (ℕ × ℕ)). s ∷ stretches ps) (sym none)

put_length : (s : Stretch) (ts : List Stretch) → length (put_before s ts) ≤ length ts + 1
put_length s [] = omega arith
put_length s (t ∷ ts) = put_length_cons s t ts (is_next s t)
  where
    put_length_cons : (s t : Stretch) (ts : List Stretch) (b : Bool) → length (if b then record s { count = s.count + t.count } ∷ ts else s ∷ t ∷ ts) ≤ length (t ∷ ts) + 1
    put_length_cons s t ts true = omega arith
    put_length_cons s t ts false = omega arith

-- the stretches are at most as many as the cells
pub stretches_few : (cells : List (ℕ × ℕ)) → length (stretches cells) ≤ length cells
stretches_few [] = omega arith
stretches_few (p ∷ ps) = omega (arith, put_length (one_cell p) (stretches ps), stretches_few ps)

-- what holds of all cells holds of the cells from one on, and of each
pub cells_drop : (n : ℕ) (cells : List (ℕ × ℕ)) → AllByRecursion IsInReach cells → AllByRecursion IsInReach (drop n cells)
cells_drop zero cells all = all
cells_drop (suc n) [] all = tt
cells_drop (suc n) (p ∷ ps) all = cells_drop n ps all.1

pub cell_at : (cells : List (ℕ × ℕ)) (i : ℕ) (d : ℕ × ℕ) → AllByRecursion IsInReach cells → i < length cells → IsInReach (get_or cells i d)
cell_at [] i d all h = absurd (omega arith)
cell_at (q ∷ qs) zero d all h = all.0
cell_at (q ∷ qs) (suc i) d all h = cell_at qs i d all.1 (omega arith)

-- a stretch that a cell in reach continues ends in reach
pub first_right : (cells : List (ℕ × ℕ)) (s : Stretch) (i : ℕ) (d : ℕ × ℕ) → AllByRecursion IsInReach cells → i < length cells → is_next s (one_cell (get_or cells i d)) ≡ true → (s.col + (s.count + 1)) * CELL_WIDTH < 2 ^ 32
first_right cells s i d all h next =
    let reach = cell_at cells i d all h in
    let parts = and_parts (nat_eq s.row (get_or cells i d).0) (nat_eq (s.col + s.count) (get_or cells i d).1) next in
    omega (arith, reach.1, eqb-true (s.col + s.count) (get_or cells i d).1 parts.1)
