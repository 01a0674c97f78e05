-- The cells of parts one after another: their lines, their order, and the parts that they make.
use Rattle.std.proofs.Common.{◌≡◌, ℕ, ◌+◌, ◌<◌, ◌≤◌, Bool, true, cond, List, [], ◌∷◌, ◌++◌, length, map, Option, Some, None, refl, ap, sym, ◌∙◌, subst, arith, append_assoc, append-nil, length-append, get_or}
use Rattle.std.specs.Prelude.{fold, replicate}
use Rattle.std.specs.List.{AllByRecursion}
use Rattle.std.specs.List.Sorted.{IsStrictlySortedBy}
use Rattle.std.specs.Map.{keys_of}
use Rattle.std.specs.Ordering.{is_lt}
use Rattle.std.specs.declared.cmp.Ordering.TheVariants.{Less}
use Rattle.std.proofs.Math.ListN.{set}
use Rattle.std.proofs.lemmas.List.Sums.{fold-append}
use Rattle.sheet_cells.specs.declared.cells.CellRef.{CellRef}
use Rattle.formula_base.specs.Ranges.{Position, position_cmp}
use Rattle.part_calc.specs.Parts.{Part, with_text}
use Rattle.part_calc.specs.Kept.{IsEntry, IsPart}
use Rattle.part_calc.specs.Text.{cell_line, part_lines}
use Rattle.sheet_calc.specs.Books.{Parts, position_of, with_cell}
use Rattle.sheet_calc.specs.FileText.{all_lines}
use Rattle.sheet_file.specs.declared.fault.BookFault.TheVariants.{OutOfOrder}
use Rattle.sheet_file.specs.Lines.{Cell, lines_of, cell_said}
use Rattle.sheet_file.specs.BookFile.{comes_after, first_fault, with_said}
use Rattle.sheet_file.proofs.CutLaws.{no_lines, lines_cut}
use Rattle.sheet_file.proofs.Spelled.{IsWritable, line_of, line_read, line_cut, joined}
use Rattle.sheet_file.proofs.Gathered.{cell_at, part_order, part_before, last_put, Ordered}

-- the cells of a part of this number, and those of parts of which the first has it
abbrev pub cells_in : ℕ → Part → List Cell
cells_in n part = map (λ e. (cell_at n e.0, e.1)) part

abbrev pub cells_from : ℕ → Parts → List Cell
cells_from n [] = []
cells_from n (part ∷ parts) = cells_in n part ++ cells_from (n + 1) parts

-- ---- their lines

joined-append : (xs ys : List (List ℕ)) → joined (xs ++ ys) ≡ joined xs ++ joined ys
joined-append [] ys = refl
joined-append (x ∷ xs) ys = ap (λ (t : List ℕ). x ++ t) (joined-append xs ys) ∙ sym (append_assoc x (joined xs) (joined ys))

lines-append : (xs ys : List Cell) → map line_of (xs ++ ys) ≡ map line_of xs ++ map line_of ys
lines-append [] ys = refl
lines-append (x ∷ xs) ys = ap (λ (t : List (List ℕ)). line_of x ∷ t) (lines-append xs ys)

part_written : (n : ℕ) (part : Part) → part_lines n part ≡ joined (map line_of (cells_in n part))
unfolding part_lines
part_written n [] = refl
part_written n (e ∷ part) = ap (λ (t : List ℕ). cell_line n e ++ t) (part_written n part)

pub parts_written : (n : ℕ) (parts : Parts) → all_lines n parts ≡ joined (map line_of (cells_from n parts))
parts_written n [] = refl
parts_written n (part ∷ parts) =
    ap (λ (t : List ℕ). t ++ all_lines (n + 1) parts) (part_written n part)
    ∙ ap (λ (t : List ℕ). joined (map line_of (cells_in n part)) ++ t) (parts_written (n + 1) parts)
    ∙ sym (joined-append (map line_of (cells_in n part)) (map line_of (cells_from (n + 1) parts)))
    ∙ ap joined (sym (lines-append (cells_in n part) (cells_from (n + 1) parts)))

-- the lines are cut apart again
pub lines_apart : (count : ℕ) (cells : List Cell) → count ≤ 16 → AllByRecursion (IsWritable count) cells → lines_of (joined (map line_of cells)) ≡ map line_of cells
lines_apart count [] few all = no_lines
lines_apart count (cell ∷ cells) few all =
    let cut = line_cut cell count (joined (map line_of cells)) few all.0 in
    lines_cut (line_of cell ++ joined (map line_of cells)) cut.0 (joined (map line_of cells)) cut.1
    ∙ ap (λ (line : List ℕ). line ∷ lines_of (joined (map line_of cells))) cut.2
    ∙ ap (λ (lines : List (List ℕ)). line_of cell ∷ lines) (lines_apart count cells few all.1)

-- and each says its cell
pub cells_said : (count : ℕ) (cells : List Cell) → count ≤ 16 → AllByRecursion (IsWritable count) cells → map (cell_said count) (map line_of cells) ≡ map Some cells
cells_said count [] few all = refl
cells_said count (cell ∷ cells) few all =
    ap (λ (o : Option Cell). o ∷ map (cell_said count) (map line_of cells)) (line_read cell count few all.0)
    ∙ ap (λ (os : List (Option Cell)). Some cell ∷ os) (cells_said count cells few all.1)

-- ---- which cells they are

all-append : (P : Cell → Type 0) (xs ys : List Cell) → AllByRecursion P xs → AllByRecursion P ys → AllByRecursion P (xs ++ ys)
all-append P [] ys all more = more
all-append P (x ∷ xs) ys all more = (all.0, all-append P xs ys all.1 more)

part_writable : (count n : ℕ) (part : Part) → n < count → AllByRecursion IsEntry part → AllByRecursion (IsWritable count) (cells_in n part)
part_writable count n [] h all = tt
part_writable count n (e ∷ part) h all = (record { part = h; entry = all.0 }, part_writable count n part h all.1)

pub parts_writable : (count n : ℕ) (parts : Parts) → n + length parts ≤ count → AllByRecursion IsPart parts → AllByRecursion (IsWritable count) (cells_from n parts)
parts_writable count n [] h all = tt
parts_writable count n (part ∷ parts) h all =
    all-append (IsWritable count) (cells_in n part) (cells_from (n + 1) parts)
    (part_writable count n part (omega (arith, h)) (all.0).entries) (parts_writable count (n + 1) parts (omega (arith, h)) all.1)

-- ---- their order

-- nothing came before, or a cell of an earlier part
abbrev Earlier : Option CellRef → ℕ → Type 0
Earlier None n = Unit {0}
Earlier (Some before) n = before.part < n

earlier : (before : Option CellRef) (n m : ℕ) → n ≤ m → Earlier before n → Earlier before m
earlier None n m h e = tt
earlier (Some before) n m h e = omega (arith, h, e)

after_earlier : (before : Option CellRef) (n : ℕ) (p : Position) → Earlier before n → comes_after before (cell_at n p) ≡ true
after_earlier None n p e = refl
after_earlier (Some before) n p e = ap is_lt (part_before before.part (position_of before) (cell_at n p) e)

part_ordered : (n : ℕ) (part : Part) (before : Option CellRef) (rest : List Cell) → IsStrictlySortedBy position_cmp (keys_of part) → AllByRecursion (λ p. comes_after before (cell_at n p) ≡ true) (keys_of part) → Earlier before (n + 1)
    → ((b : Option CellRef) → Earlier b (n + 1) → Ordered b rest) → Ordered before (cells_in n part ++ rest)
unfolding IsStrictlySortedBy
part_ordered n [] before rest sorted all e more = more before e
part_ordered n (entry ∷ part) before rest sorted all e more =
    (all.0, part_ordered n part (Some (cell_at n entry.0)) rest sorted.1 (behind part sorted.0) (omega arith) more)
  where
    behind : (s : Part) → AllByRecursion (λ q. position_cmp entry.0 q ≡ Less) (keys_of s) → AllByRecursion (λ p. comes_after (Some (cell_at n entry.0)) (cell_at n p) ≡ true) (keys_of s)
    behind [] less = tt
    behind (f ∷ s) less = (ap is_lt (part_order n entry.0 (cell_at n f.0) refl ∙ less.0), behind s less.1)

all_after : (n : ℕ) (part : Part) (before : Option CellRef) → Earlier before n → AllByRecursion (λ p. comes_after before (cell_at n p) ≡ true) (keys_of part)
all_after n [] before e = tt
all_after n (entry ∷ part) before e = (after_earlier before n entry.0 e, all_after n part before e)

pub parts_ordered : (n : ℕ) (parts : Parts) (before : Option CellRef) → AllByRecursion IsPart parts → Earlier before n → Ordered before (cells_from n parts)
parts_ordered n [] before all e = tt
parts_ordered n (part ∷ parts) before all e =
    part_ordered n part before (cells_from (n + 1) parts) (all.0).ordered (all_after n part before e) (earlier before n (n + 1) (omega arith) e)
    (λ b more. parts_ordered (n + 1) parts b all.1 more)

-- cells in order have no fault
pub no_fault_in : (k : ℕ) (before : Option CellRef) (cells : List Cell) → Ordered before cells → first_fault k before (map Some cells) ≡ None
no_fault_in k before [] ordered = refl
no_fault_in k before (cell ∷ cells) ordered =
    ap (λ (b : Bool). cond b (first_fault (k + 1) (Some cell.0) (map Some cells)) (Some (OutOfOrder k))) ordered.0
    ∙ no_fault_in (k + 1) (Some cell.0) cells ordered.1

-- ---- the parts that they make

get_middle : (done : Parts) (part : Part) (rest : Parts) → get_or (done ++ part ∷ rest) (length done) [] ≡ part
get_middle [] part rest = refl
get_middle (p ∷ done) part rest = get_middle done part rest

set_middle : (done : Parts) (part new : Part) (rest : Parts) → set (done ++ part ∷ rest) (length done) new ≡ done ++ new ∷ rest
set_middle [] part new rest = refl
set_middle (p ∷ done) part new rest = ap (λ (s : Parts). p ∷ s) (set_middle done part new rest)

-- in a part all cells in front of one come before it
at_middle : (k : Position) (s : Part) (x : Position × List ℕ) (t : Part) → AllByRecursion (λ y. position_cmp k y ≡ Less) (keys_of (s ++ x ∷ t)) → position_cmp k x.0 ≡ Less
at_middle k [] x t all = all.0
at_middle k (e ∷ s) x t all = at_middle k s x t all.1

all_before : (s : Part) (x : Position × List ℕ) (t : Part) → IsStrictlySortedBy position_cmp (keys_of (s ++ x ∷ t)) → AllByRecursion (λ e. position_cmp e.0 x.0 ≡ Less) s
unfolding IsStrictlySortedBy
all_before [] x t sorted = tt
all_before (e ∷ s) x t sorted = (at_middle e.0 s x t sorted.0, all_before s x t sorted.1)

put_middle : (done : Parts) (part : Part) (rest : Parts) (p : Position) (raw : List ℕ) → 1 ≤ length raw → AllByRecursion (λ e. position_cmp e.0 p ≡ Less) part
    → with_cell (done ++ part ∷ rest) (cell_at (length done) p) raw ≡ done ++ (part ++ (p, raw) ∷ []) ∷ rest
unfolding with_cell
put_middle done part rest p raw some all =
    ap (λ (s : Part). set (done ++ part ∷ rest) (length done) (with_text s p raw)) (get_middle done part rest)
    ∙ set_middle done part (with_text part p raw) rest
    ∙ ap (λ (s : Part). done ++ s ∷ rest) (last_put part p raw some all)

part_made : (done : Parts) (part : Part) (rest : Parts) (left : Part) → IsStrictlySortedBy position_cmp (keys_of (part ++ left)) → AllByRecursion IsEntry left
    → fold with_said (done ++ part ∷ rest) (map Some (cells_in (length done) left)) ≡ done ++ (part ++ left) ∷ rest
part_made done part rest [] sorted all = ap (λ (s : Part). done ++ s ∷ rest) (sym (append-nil part))
part_made done part rest (e ∷ left) sorted all =
    ap (λ (d : Parts). fold with_said d (map Some (cells_in (length done) left))) (put_middle done part rest e.0 e.1 (all.0).some (all_before part e left sorted))
    ∙ part_made done (part ++ e ∷ []) rest left (subst (λ (s : Part). IsStrictlySortedBy position_cmp (keys_of s)) (sym (append_assoc part (e ∷ []) left)) sorted) all.1
    ∙ ap (λ (s : Part). done ++ s ∷ rest) (append_assoc part (e ∷ []) left)

map-append : (xs ys : List Cell) → map Some (xs ++ ys) ≡ map Some xs ++ map Some ys
map-append [] ys = refl
map-append (x ∷ xs) ys = ap (λ (t : List (Option Cell)). Some x ∷ t) (map-append xs ys)

pub parts_made : (done parts : Parts) (n : ℕ) → n ≡ length done → AllByRecursion IsPart parts → fold with_said (done ++ replicate (length parts) []) (map Some (cells_from n parts)) ≡ done ++ parts
parts_made done [] n is all = refl
parts_made done (part ∷ parts) n is all =
    ap (fold with_said (done ++ [] ∷ replicate (length parts) [])) (map-append (cells_in n part) (cells_from (n + 1) parts))
    ∙ fold-append with_said (done ++ [] ∷ replicate (length parts) []) (map Some (cells_in n part)) (map Some (cells_from (n + 1) parts))
    ∙ ap (λ (m : ℕ). fold with_said (fold with_said (done ++ [] ∷ replicate (length parts) []) (map Some (cells_in m part))) (map Some (cells_from (n + 1) parts))) is
    ∙ ap (λ (d : Parts). fold with_said d (map Some (cells_from (n + 1) parts))) (part_made done [] (replicate (length parts) []) part (all.0).ordered (all.0).entries ∙ sym (append_assoc done (part ∷ []) (replicate (length parts) [])))
    ∙ parts_made (done ++ part ∷ []) parts (n + 1) (omega (arith, is, length-append done (part ∷ []))) all.1
    ∙ append_assoc done (part ∷ []) parts
