-- Cells put one after another into parts, and the cells of parts one after another.
use Rattle.std.proofs.Common.{◌≡◌, ℕ, zero, suc, ◌+◌, ◌<◌, ◌≤◌, true, List, [], ◌∷◌, ◌++◌, length, map, Option, Some, refl, ap, sym, ◌∙◌, subst, arith, append_assoc, append-nil}
use Rattle.std.specs.Prelude.{fold, replicate}
use Rattle.std.specs.List.{flat_map, AllByRecursion}
use Rattle.std.specs.List.Sorted.{IsStrictlySortedBy}
use Rattle.std.specs.Map.{keys_of}
use Rattle.std.specs.BTreeMap.{insert_entry}
use Rattle.std.specs.Ordering.{nat_cmp, ordering_then, ordering_reverse, match_ordering, is_eq, is_lt}
use Rattle.std.specs.declared.cmp.Ordering.{Ordering}
use Rattle.std.specs.declared.cmp.Ordering.TheVariants.{Less, Equal, Greater}
use Rattle.std.specs.Cmp.{IsTotalOrder, eq_by_cmp_equiv}
use Rattle.std.proofs.Math.ListN.{set}
use Rattle.std.proofs.lemmas.Cmp.{then_total, on_total, nat_cmp_total}
use Rattle.std.proofs.lemmas.Grind.{flat_map-append}
use Rattle.std.proofs.lemmas.Map.Lookups.{exact_unsigned}
use Rattle.sheet_cells.specs.declared.cells.CellRef.{CellRef}
use Rattle.sheet_cells.specs.Cells.{cell_cmp}
use Rattle.formula_base.specs.Ranges.{Position, position_cmp}
use Rattle.part_calc.specs.Parts.{Part, with_text}
use Rattle.part_calc.specs.Kept.{IsEntry, IsPart}
use Rattle.part_calc.specs.Text.{cell_line, part_lines}
use Rattle.part_calc.proofs.LengthLaws.{below_from_less, less_from_below}
use Rattle.part_calc.proofs.PositionLaws.{positions_total}
use Rattle.sheet_calc.specs.Books.{Parts, IsBook, position_of, part_at, with_cell}
use Rattle.sheet_calc.specs.FileText.{all_lines}
use Rattle.sheet_file.specs.Lines.{Cell}
use Rattle.sheet_file.specs.BookFile.{comes_after, with_said}
use Rattle.sheet_file.proofs.Spelled.{IsWritable, line_of, joined}

-- ---- the order of cells

cells_total : IsTotalOrder cell_cmp
cells_total = then_total (on_total (λ (c : CellRef). c.part) nat_cmp_total) (then_total (on_total (λ (c : CellRef). c.row) nat_cmp_total) (on_total (λ (c : CellRef). c.col) nat_cmp_total))

abbrev pub cell_at : ℕ → Position → CellRef
cell_at n p = record { part = n; row = p.0; col = p.1 }

is_less : (o : Ordering) → is_lt o ≡ true → o ≡ Less
is_less Less h = refl
is_less Equal h = cc
is_less Greater h = cc

is_equal : (o : Ordering) → is_eq o ≡ true → o ≡ Equal
is_equal Less h = cc
is_equal Equal h = refl
is_equal Greater h = cc

same_number : (n : ℕ) → nat_cmp n n ≡ Equal
same_number n = is_equal (nat_cmp n n) ((eq_by_cmp_equiv nat_cmp_total).refl n)

-- within a part cells come by their positions
pub part_order : (n : ℕ) (p : Position) (at : CellRef) → at.part ≡ n → cell_cmp (cell_at n p) at ≡ position_cmp p (position_of at)
part_order n p at same =
    ap (λ (o : Ordering). ordering_then o (position_cmp p (position_of at))) (ap (nat_cmp n) same ∙ same_number n)

-- a cell of a later part doesn't come before
not_before : (n : ℕ) (p : Position) (at : CellRef) → at.part < n → cell_cmp (cell_at n p) at ≡ Less → ⊥
not_before n p at h less = by (nat_cmp n at.part) refl less
  where
    by : (o : Ordering) → nat_cmp n at.part ≡ o → ordering_then o (position_cmp p (position_of at)) ≡ Less → ⊥
    by Less is e = let low = below_from_less n at.part is in absurd (omega (arith, low, h))
    by Equal is e = let same = exact_unsigned n at.part is in absurd (omega (arith, same, h))
    by Greater is e = cc

-- and one of an earlier part does
pub part_before : (n : ℕ) (p : Position) (at : CellRef) → n < at.part → cell_cmp (cell_at n p) at ≡ Less
part_before n p at h = ap (λ (o : Ordering). ordering_then o (position_cmp p (position_of at))) (less_from_below n at.part h)

-- ---- a cell behind all cells of a part

before_all : (part : Part) (p : Position) (c : ℕ) (raw : List ℕ) → AllByRecursion (λ e. position_cmp e.0 p ≡ Less) part → with_text part p (c ∷ raw) ≡ part ++ (p, c ∷ raw) ∷ []
unfolding with_text
before_all [] p c raw all = refl
before_all (e ∷ part) p c raw all =
    ap (λ (o : Ordering). match_ordering o ((p, c ∷ raw) ∷ e ∷ part) ((e.0, c ∷ raw) ∷ part) (e ∷ insert_entry position_cmp part p (c ∷ raw)))
    (positions_total.antisymm p e.0 ∙ ap ordering_reverse all.0)
    ∙ ap (λ (s : Part). e ∷ s) (before_all part p c raw all.1)

pub last_put : (part : Part) (p : Position) (raw : List ℕ) → 1 ≤ length raw → AllByRecursion (λ e. position_cmp e.0 p ≡ Less) part → with_text part p raw ≡ part ++ (p, raw) ∷ []
last_put part p [] some all = absurd (omega arith)
last_put part p (c ∷ raw) some all = before_all part p c raw all

all_last : (P : Position × List ℕ → Type 0) (part : Part) (x : Position × List ℕ) → AllByRecursion P part → P x → AllByRecursion P (part ++ x ∷ [])
all_last P [] x all here = (here, tt)
all_last P (e ∷ part) x all here = (all.0, all_last P part x all.1 here)

keys_last : (k : Position) (part : Part) (x : Position × List ℕ) → AllByRecursion (λ y. position_cmp k y ≡ Less) (keys_of part) → position_cmp k x.0 ≡ Less → AllByRecursion (λ y. position_cmp k y ≡ Less) (keys_of (part ++ x ∷ []))
keys_last k [] x all here = (here, tt)
keys_last k (e ∷ part) x all here = (all.0, keys_last k part x all.1 here)

sorted_last : (part : Part) (x : Position × List ℕ) → IsStrictlySortedBy position_cmp (keys_of part) → AllByRecursion (λ e. position_cmp e.0 x.0 ≡ Less) part → IsStrictlySortedBy position_cmp (keys_of (part ++ x ∷ []))
unfolding IsStrictlySortedBy
sorted_last [] x sorted all = (tt, tt)
sorted_last (e ∷ part) x sorted all = (keys_last e.0 part x sorted.0 all.0, sorted_last part x sorted.1 all.1)

-- ---- a cell behind all cells of parts

-- all cells of parts, of which the first has this number, come before the cell
abbrev pub Below : ℕ → Parts → CellRef → Type 0
Below n [] at = Unit {0}
Below n (part ∷ parts) at = AllByRecursion (λ e. cell_cmp (cell_at n e.0) at ≡ Less) part × Below (n + 1) parts at

-- parts with a cell behind those of one of them
abbrev appended : Parts → ℕ → Position × List ℕ → Parts
appended [] k x = []
appended (part ∷ parts) zero x = (part ++ x ∷ []) ∷ parts
appended (part ∷ parts) (suc k) x = part ∷ appended parts k x

positions_below : (n : ℕ) (part : Part) (at : CellRef) → at.part ≡ n → AllByRecursion (λ e. cell_cmp (cell_at n e.0) at ≡ Less) part → AllByRecursion (λ e. position_cmp e.0 (position_of at) ≡ Less) part
positions_below n [] at same all = tt
positions_below n (e ∷ part) at same all = (sym (part_order n e.0 at same) ∙ all.0, positions_below n part at same all.1)

put_is : (parts : Parts) (n k : ℕ) (at : CellRef) (raw : List ℕ) → at.part ≡ n + k → 1 ≤ length raw → Below n parts at → set parts k (with_text (part_at parts k) (position_of at) raw) ≡ appended parts k (position_of at, raw)
put_is [] n k at raw same some below = refl
put_is (part ∷ parts) n zero at raw same some below = ap (λ (s : Part). s ∷ parts) (last_put part (position_of at) raw some (positions_below n part at (omega (arith, same)) below.0))
put_is (part ∷ parts) n (suc k) at raw same some below = ap (λ (s : Parts). part ∷ s) (put_is parts (n + 1) k at raw (omega (arith, same)) some below.1)

cell_put : (parts : Parts) (at : CellRef) (raw : List ℕ) → 1 ≤ length raw → Below 0 parts at → with_cell parts at raw ≡ appended parts at.part (position_of at, raw)
unfolding with_cell
cell_put parts at raw some below = put_is parts 0 at.part at raw (omega arith) some below

none_behind : (m : ℕ) (parts : Parts) (at : CellRef) → at.part < m → Below m parts at → all_lines m parts ≡ []
unfolding part_lines
none_behind m [] at h below = refl
none_behind m ([] ∷ parts) at h below = none_behind (m + 1) parts at (omega (arith, h)) below.1
none_behind m ((e ∷ part) ∷ parts) at h below = absurd (not_before m e.0 at h below.0.0)

lines_last : (n : ℕ) (part : Part) (x : Position × List ℕ) → part_lines n (part ++ x ∷ []) ≡ part_lines n part ++ cell_line n x
unfolding part_lines
lines_last n part x = flat_map-append (cell_line n) part (x ∷ []) ∙ ap (λ (t : List ℕ). flat_map (cell_line n) part ++ t) (append-nil (cell_line n x))

lines_put : (parts : Parts) (n k : ℕ) (at : CellRef) (raw : List ℕ) → at.part ≡ n + k → k < length parts → Below n parts at → all_lines n (appended parts k (position_of at, raw)) ≡ all_lines n parts ++ line_of (at, raw)
lines_put [] n k at raw same h below = absurd (omega arith)
lines_put (part ∷ parts) n zero at raw same h below =
    let number : at.part ≡ n = omega (arith, same) in
    let none : all_lines (n + 1) parts ≡ [] = none_behind (n + 1) parts at (omega (arith, same)) below.1 in
    let x : Position × List ℕ = (position_of at, raw) in
    ap (λ (t : List ℕ). part_lines n (part ++ (position_of at, raw) ∷ []) ++ t) none
    ∙ append-nil (part_lines n (part ++ (position_of at, raw) ∷ []))
    ∙ lines_last n part (position_of at, raw)
    ∙ ap (λ (m : ℕ). part_lines n part ++ cell_line m (position_of at, raw)) (sym number)
    ∙ ap (λ (t : List ℕ). t ++ line_of (at, raw)) (sym (append-nil (part_lines n part)) ∙ ap (λ (t : List ℕ). part_lines n part ++ t) (sym none))
lines_put (part ∷ parts) n (suc k) at raw same h below =
    ap (λ (t : List ℕ). part_lines n part ++ t) (lines_put parts (n + 1) k at raw (omega (arith, same)) (omega (arith, h)) below.1)
    ∙ sym (append_assoc (part_lines n part) (all_lines (n + 1) parts) (line_of (at, raw)))

kept_put : (parts : Parts) (n k : ℕ) (at : CellRef) (raw : List ℕ) → at.part ≡ n + k → IsEntry (position_of at, raw) → Below n parts at → AllByRecursion IsPart parts → AllByRecursion IsPart (appended parts k (position_of at, raw))
kept_put [] n k at raw same entry below all = tt
kept_put (part ∷ parts) n zero at raw same entry below all =
    let positions = positions_below n part at (omega (arith, same)) below.0 in
    (record { ordered = sorted_last part (position_of at, raw) (all.0).ordered positions; entries = all_last IsEntry part (position_of at, raw) (all.0).entries entry }, all.1)
kept_put (part ∷ parts) n (suc k) at raw same entry below all = (all.0, kept_put parts (n + 1) k at raw (omega (arith, same)) entry below.1 all.1)

further_part : (n : ℕ) (part : Part) (at next : CellRef) → cell_cmp at next ≡ Less → AllByRecursion (λ e. cell_cmp (cell_at n e.0) at ≡ Less) part → AllByRecursion (λ e. cell_cmp (cell_at n e.0) next ≡ Less) part
further_part n [] at next less all = tt
further_part n (e ∷ part) at next less all = (cells_total.trans (cell_at n e.0) at next all.0 less, further_part n part at next less all.1)

further : (n : ℕ) (parts : Parts) (at next : CellRef) → cell_cmp at next ≡ Less → Below n parts at → Below n parts next
further n [] at next less below = tt
further n (part ∷ parts) at next less below = (further_part n part at next less below.0, further (n + 1) parts at next less below.1)

below_put : (parts : Parts) (n k : ℕ) (at next : CellRef) (raw : List ℕ) → at.part ≡ n + k → cell_cmp at next ≡ Less → Below n parts at → Below n (appended parts k (position_of at, raw)) next
below_put [] n k at next raw same less below = tt
below_put (part ∷ parts) n zero at next raw same less below =
    let number : at.part ≡ n = omega (arith, same) in (
      all_last (λ e. cell_cmp (cell_at n e.0) next ≡ Less) part (position_of at, raw) (further_part n part at next less below.0)
          (ap (λ (m : ℕ). cell_cmp (cell_at m (position_of at)) next) (sym number) ∙ less),
      further (n + 1) parts at next less below.1,
    )
below_put (part ∷ parts) n (suc k) at next raw same less below = (further_part n part at next less below.0, below_put parts (n + 1) k at next raw (omega (arith, same)) less below.1)

length_put : (parts : Parts) (k : ℕ) (x : Position × List ℕ) → length (appended parts k x) ≡ length parts
length_put [] k x = refl
length_put (part ∷ parts) zero x = refl
length_put (part ∷ parts) (suc k) x = ap suc (length_put parts k x)

-- ---- cells one after another

-- each cell comes after the one before it
abbrev pub Ordered : Option CellRef → List Cell → Type 0
Ordered before [] = Unit {0}
Ordered before (cell ∷ cells) = (comes_after before cell.0 ≡ true) × Ordered (Some cell.0) cells

-- parts into which cells were put
pub record IsGathered (draft : Parts) (cells : List Cell) (after : Parts) : Type 0 where
  pub book : IsBook after
  pub count : length after ≡ length draft
  pub lines : all_lines 0 after ≡ all_lines 0 draft ++ joined (map line_of cells)

-- whatever comes after the last cell comes after all cells of the parts
abbrev UpTo : Parts → Option CellRef → Type 0
UpTo draft before = (at : CellRef) → comes_after before at ≡ true → Below 0 draft at

pub gathered : (cells : List Cell) (draft : Parts) (before : Option CellRef) → IsBook draft → UpTo draft before → AllByRecursion (IsWritable (length draft)) cells → Ordered before cells → IsGathered draft cells (fold with_said draft (map Some cells))
gathered [] draft before book upto all ordered = record { book = book; count = refl; lines = sym (append-nil (all_lines 0 draft)) }
gathered (cell ∷ cells) draft before book upto all ordered =
    let at = cell.0 in
    let raw = cell.1 in
    let below : Below 0 draft at = upto at ordered.0 in
    let entry = (all.0).entry in
    let part = (all.0).part in
    let put : with_cell draft cell.0 cell.1 ≡ appended draft cell.0.part (position_of cell.0, cell.1) = cell_put draft cell.0 cell.1 entry.some below in
    let same : length (with_cell draft cell.0 cell.1) ≡ length draft = ap (λ (d : Parts). length d) put ∙ length_put draft at.part (position_of at, raw) in
    let next : IsBook (with_cell draft cell.0 cell.1) = subst IsBook (sym put) (record {
      some = let one = book.some in let l = length_put draft at.part (position_of at, raw) in omega (arith, one, l);
      few = let most = book.few in let l = length_put draft at.part (position_of at, raw) in omega (arith, most, l);
      each = kept_put draft 0 at.part at raw (omega arith) entry below book.each;
    }) in
    let more : UpTo (with_cell draft cell.0 cell.1) (Some cell.0) = λ other after. subst (λ (d : Parts). Below 0 d other) (sym put) (below_put draft 0 at.part at other raw (omega arith) (is_less (cell_cmp at other) after) below) in
    let rest = gathered cells (with_cell draft cell.0 cell.1) (Some cell.0) next more (subst (λ (n : ℕ). AllByRecursion (IsWritable n) cells) (sym same) all.1) ordered.1 in
    record {
      book = rest.book;
      count = rest.count ∙ same;
      lines =
          rest.lines
          ∙ ap (λ (t : List ℕ). t ++ joined (map line_of cells)) (ap (all_lines 0) put ∙ lines_put draft 0 at.part at raw (omega arith) part below)
          ∙ append_assoc (all_lines 0 draft) (line_of cell) (joined (map line_of cells));
    }

-- parts without cells
pub empty_below : (n count : ℕ) (at : CellRef) → Below n (replicate count []) at
empty_below n zero at = tt
empty_below n (suc count) at = (tt, empty_below (n + 1) count at)

empty_parts : (count : ℕ) → AllByRecursion IsPart (replicate count [])
unfolding IsStrictlySortedBy
empty_parts zero = tt
empty_parts (suc count) = (record { ordered = tt; entries = tt }, empty_parts count)

length_empty : (count : ℕ) → length (replicate {A = Part} count []) ≡ count
length_empty zero = refl
length_empty (suc count) = ap suc (length_empty count)

pub empty_book : (count : ℕ) → 1 ≤ count → count ≤ 16 → IsBook (replicate count [])
empty_book count some few = let l = length_empty count in record { some = omega (arith, l, some); few = omega (arith, l, few); each = empty_parts count }

pub empty_length : (count : ℕ) → length (replicate {A = Part} count []) ≡ count
empty_length count = length_empty count

pub empty_lines : (n count : ℕ) → all_lines n (replicate count []) ≡ []
unfolding part_lines
empty_lines n zero = refl
empty_lines n (suc count) = empty_lines (n + 1) count
