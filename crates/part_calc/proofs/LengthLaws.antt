-- How long the lines of a part are.
use Rattle.std.proofs.Common.{◌≡◌, ℕ, suc, ◌+◌, ◌*◌, ◌/◌, ◌%◌, ◌^◌, ◌<◌, ◌≤◌, Bool, true, false, cond, List, [], ◌∷◌, ◌++◌, length, map, leb, refl, ap, sym, ◌∙◌, subst, arith, append_assoc, append-nil, length-append}
use Rattle.std.specs.Prelude.{nat_lt}
use Rattle.std.specs.Fmt.{decimal}
use Rattle.std.specs.List.{flat_map, list_all, AllByRecursion}
use Rattle.std.specs.List.Sorted.{IsStrictlySortedBy}
use Rattle.std.specs.Map.{keys_of}
use Rattle.std.specs.Ordering.{nat_cmp, ordering_then, is_eq, is_lt, is_gt}
use Rattle.std.specs.declared.cmp.Ordering.{Ordering}
use Rattle.std.specs.declared.cmp.Ordering.TheVariants.{Less, Equal, Greater}
use Rattle.std.proofs.lemmas.Bool.{both_ways, leb-true, and_parts}
use Rattle.std.proofs.lemmas.Cmp.{nat_cmp_total}
use Rattle.std.specs.Cmp.{eq_by_cmp_equiv}
use Rattle.std.proofs.lemmas.Fmt.{decimal_digit, decimal_step, length-decimal-le}
use Rattle.std.proofs.lemmas.List.Elements.{All-from_recursion}
use Rattle.std.proofs.lemmas.Map.Keys.{le_from_not_gt, ge_from_not_lt}
use Rattle.std.proofs.lemmas.Map.Lookups.{exact_unsigned}
use Rattle.std.proofs.lemmas.Map.Views.{length-le_from_below}
use Rattle.sheet_cells.specs.Cells.{IsRaw, is_raw_byte}
use Rattle.formula_base.specs.Ranges.{Position, position_cmp}
use Rattle.part_calc.specs.Parts.{Part}
use Rattle.part_calc.specs.Kept.{IsEntry, IsPart}
use Rattle.part_calc.specs.Text.{column_letters, cell_line, part_lines}

-- ---- digits

pub one_digit : (n : ℕ) → n < 10 → 1 ≡ length (decimal n)
one_digit n h = sym (ap length (decimal_digit n h))

pub more_digits : (n d : ℕ) → 10 ≤ n → n < 2 ^ 64 → d ≡ length (decimal (n / 10)) → d + 1 ≡ length (decimal n)
more_digits n d h k is =
    let e : length (decimal n) ≡ length (decimal (n / 10)) + 1 = ap length (decimal_step n h k) ∙ simp length-append in
    omega (arith, is, e)

-- ---- a line

letters_length : (column : ℕ) → length (column_letters column) ≡ cond (nat_lt column 26) 1 2
letters_length column = by (nat_lt column 26)
  where
    by : (b : Bool) → length (cond b ((65 + column) ∷ []) ((64 + column / 26) ∷ (65 + column % 26) ∷ [])) ≡ cond b 1 2
    by true = refl
    by false = refl

line_length : (part : ℕ) (p : Position) (raw : List ℕ) → length (cell_line part (p, raw)) ≡ length (decimal part) + (1 + (cond (nat_lt p.1 26) 1 2 + length (decimal (p.0 + 1))) + (1 + (length raw + 1)))
unfolding cell_line
line_length part p raw =
    simp length-append (let e = letters_length p.1 in omega (arith, e))

pub line_is : (part : ℕ) (p : Position) (raw : List ℕ) (a b c d : ℕ) → a ≡ length (decimal part) → b ≡ cond (nat_lt p.1 26) 1 2 → c ≡ length (decimal (p.0 + 1)) → d ≡ length raw → a + b + c + d + 3 ≡ length (cell_line part (p, raw))
line_is part p raw a b c d x y z w = let e = line_length part p raw in omega (arith, e, x, y, z, w)

-- ---- all lines

pub lines_step : (part : ℕ) (total more : ℕ) (e : Position × List ℕ) (s t all : Part) → total + length (part_lines part s) ≡ length (part_lines part all) → s ≡ e ∷ t → more ≡ length (cell_line part e) → total + more + length (part_lines part t) ≡ length (part_lines part all)
unfolding part_lines
lines_step part total more e s t all told is line =
    let split : length (flat_map (cell_line part) s) ≡ length (cell_line part e) + length (flat_map (cell_line part) t) = ap (λ (u : Part). length (flat_map (cell_line part) u)) is ∙ length-append (cell_line part e) (flat_map (cell_line part) t) in
    omega (arith, told, split, line)

pub lines_end : (part : ℕ) (total : ℕ) (s all : Part) → total + length (part_lines part s) ≡ length (part_lines part all) → s ≡ [] → total ≡ length (part_lines part all)
unfolding part_lines
lines_end part total s all told none =
    let e : length (flat_map (cell_line part) s) ≡ 0 = ap (λ (u : Part). length (flat_map (cell_line part) u)) none in omega (arith, told, e)

-- ---- lines that are written

pub written_step : (part : ℕ) (e : Position × List ℕ) (s t : Part) (out more all : List ℕ) → out ++ part_lines part s ≡ all → s ≡ e ∷ t → more ≡ out ++ cell_line part e → more ++ part_lines part t ≡ all
unfolding part_lines
written_step part e s t out more all told is line =
    ap (λ (bytes : List ℕ). bytes ++ flat_map (cell_line part) t) line
    ∙ append_assoc out (cell_line part e) (flat_map (cell_line part) t)
    ∙ ap (λ (u : Part). out ++ flat_map (cell_line part) u) (sym is) ∙ told

pub written_end : (part : ℕ) (s : Part) (out all : List ℕ) → out ++ part_lines part s ≡ all → s ≡ [] → out ≡ all
unfolding part_lines
written_end part s out all told none = sym (append-nil out) ∙ ap (λ (u : Part). out ++ flat_map (cell_line part) u) (sym none) ∙ told

pub written_left : (e : Position × List ℕ) (s t : Part) → AllByRecursion IsEntry s → s ≡ e ∷ t → IsEntry e × AllByRecursion IsEntry t
written_left e s t all is = subst (AllByRecursion IsEntry) is all

-- ---- how long they can be

pub short_raw : (raw : List ℕ) → IsRaw raw → length raw ≤ 1024
short_raw raw valid = leb-true (length raw) 1024 (and_parts (leb (length raw) 1024) (list_all is_raw_byte raw) valid).0

two : (b : Bool) → cond b 1 2 ≤ 2
two true = omega arith
two false = omega arith

line_bound : (part : ℕ) (e : Position × List ℕ) → part < 16 → IsEntry e → length (cell_line part e) ≤ 1035
line_bound part e h entry =
    let line = line_length part e.0 e.1 in
    let letters = two (nat_lt e.0.1 26) in
    let number : length (decimal part) ≤ 2 = length-decimal-le 2 part (omega arith) (omega arith) (omega arith) in
    let row = entry.row in
    let rows : length (decimal (e.0.0 + 1)) ≤ 4 = length-decimal-le 4 (e.0.0 + 1) (omega arith) (omega (arith, row)) (omega (arith, row)) in
    let raw = short_raw e.1 entry.raw in
    omega (arith, line, letters, number, rows, raw)

lines_bound : (part : ℕ) (cells : Part) → part < 16 → AllByRecursion IsEntry cells → length (part_lines part cells) ≤ length cells * 1035
unfolding part_lines
lines_bound part [] h all = omega arith
lines_bound part (e ∷ cells) h all =
    let one = line_bound part e h all.0 in
    let rest = lines_bound part cells h all.1 in
    let split = length-append (cell_line part e) (flat_map (cell_line part) cells) in
    omega (arith, one, rest, split)

-- ---- how many cells there can be

pub below_from_less : (a b : ℕ) → nat_cmp a b ≡ Less → a < b
below_from_less a b h =
    let le = le_from_not_gt a b (ap is_gt h) in
    let apart : a ≡ b → ⊥ = λ e. both_ways (is_eq (nat_cmp a b)) (ap is_eq h) (ap (λ (c : ℕ). is_eq (nat_cmp a c)) (sym e) ∙ (eq_by_cmp_equiv nat_cmp_total).refl a) in
    omega (arith, le, apart)

pub less_from_below : (a b : ℕ) → a < b → nat_cmp a b ≡ Less
less_from_below a b h = by (nat_cmp a b) refl
  where
    by : (o : Ordering) → nat_cmp a b ≡ o → o ≡ Less
    by Less e = refl
    by Equal e = absurd (let same = exact_unsigned a b e in omega (arith, h, same))
    by Greater e = absurd (let le = ge_from_not_lt a b (ap is_lt e) in omega (arith, h, le))

-- a cell as one number
number_of : Position → ℕ
number_of p = p.0 * 256 + p.1

rises : (p q : Position) → p.1 < 256 → position_cmp p q ≡ Less → nat_cmp (number_of p) (number_of q) ≡ Less
unfolding number_of
rises p q h less = less_from_below (p.0 * 256 + p.1) (q.0 * 256 + q.1) (by (nat_cmp p.0 q.0) refl less)
  where
    by : (o : Ordering) → nat_cmp p.0 q.0 ≡ o → ordering_then o (nat_cmp p.1 q.1) ≡ Less → p.0 * 256 + p.1 < q.0 * 256 + q.1
    by Less e l = let row = below_from_less p.0 q.0 e in omega (arith, row, h)
    by Equal e l = let row = exact_unsigned p.0 q.0 e in let column = below_from_less p.1 q.1 l in omega (arith, row, column)
    by Greater e l = cc

numbers_above : (p : Position) (cells : Part) → p.1 < 256 → AllByRecursion (λ y. position_cmp p y ≡ Less) (keys_of cells) → AllByRecursion (λ y. nat_cmp (number_of p) y ≡ Less) (map number_of (keys_of cells))
numbers_above p [] h all = tt
numbers_above p (e ∷ cells) h all = (rises p e.0 h all.0, numbers_above p cells h all.1)

numbers_sorted : (cells : Part) → AllByRecursion IsEntry cells → IsStrictlySortedBy position_cmp (keys_of cells) → IsStrictlySortedBy nat_cmp (map number_of (keys_of cells))
unfolding IsStrictlySortedBy
numbers_sorted [] all sorted = tt
numbers_sorted (e ∷ cells) all sorted = (numbers_above e.0 cells (all.0).column sorted.0, numbers_sorted cells all.1 sorted.1)

numbers_below : (cells : Part) → AllByRecursion IsEntry cells → AllByRecursion (λ n. n < 1048576) (map number_of (keys_of cells))
unfolding number_of
numbers_below [] all = tt
numbers_below (e ∷ cells) all = (let row = (all.0).row in let column = (all.0).column in omega (arith, row, column), numbers_below cells all.1)

length-keys : (cells : Part) → length (map number_of (keys_of cells)) ≡ length cells
length-keys [] = refl
length-keys (e ∷ cells) = ap suc (length-keys cells)

cells_bound : (cells : Part) → IsPart cells → length cells ≤ 1048576
cells_bound cells part =
    let keys = map number_of (keys_of cells) in
    let short = length-le_from_below 1048576 keys (numbers_sorted cells part.entries part.ordered) (All-from_recursion (λ n. n < 1048576) keys (numbers_below cells part.entries)) in
    let same = length-keys cells in
    omega (arith, short, same)

-- the lines of a part are short enough for a number of 64 bits
pub text_fits : (part : ℕ) (cells : Part) → part < 16 → IsPart cells → length (part_lines part cells) < 2 ^ 31
text_fits part cells h kept =
    let lines = lines_bound part cells h kept.entries in
    let few = cells_bound cells kept in
    omega (arith, lines, few)

-- ---- the lines of a part of another number

longer_line : (n d : ℕ) (e : Position × List ℕ) → length (decimal n) ≡ d + 1 → length (cell_line n e) ≡ length (cell_line 0 e) + d
longer_line n d e is =
    let here = line_length n e.0 e.1 in
    let there = line_length 0 e.0 e.1 in
    let zero_digits : 1 ≡ length (decimal 0) = one_digit 0 (omega arith) in
    omega (arith, is, here, there, zero_digits)

-- where the number has one digit the lines are as long as those of part 0
one_digit_lines : (n : ℕ) (part : Part) → length (decimal n) ≡ 1 → length (part_lines n part) ≡ length (part_lines 0 part)
unfolding part_lines
one_digit_lines n [] is = refl
one_digit_lines n (e ∷ part) is =
    let first = longer_line n 0 e is in
    let rest = one_digit_lines n part is in
    let here = length-append (cell_line n e) (flat_map (cell_line n) part) in
    let there = length-append (cell_line 0 e) (flat_map (cell_line 0) part) in
    omega (arith, first, rest, here, there)

-- where it has two they have a byte more each
two_digit_lines : (n : ℕ) (part : Part) → length (decimal n) ≡ 2 → length (part_lines n part) ≡ length (part_lines 0 part) + length part
unfolding part_lines
two_digit_lines n [] is = refl
two_digit_lines n (e ∷ part) is =
    let first = longer_line n 1 e is in
    let rest = two_digit_lines n part is in
    let here = length-append (cell_line n e) (flat_map (cell_line n) part) in
    let there = length-append (cell_line 0 e) (flat_map (cell_line 0) part) in
    omega (arith, first, rest, here, there)

pub low_number : (n : ℕ) (part : Part) (kept : ℕ) → n < 10 → kept ≡ length (part_lines 0 part) → kept ≡ length (part_lines n part)
low_number n part kept h is = is ∙ sym (one_digit_lines n part (sym (one_digit n h)))

pub high_number : (n : ℕ) (part : Part) (kept count : ℕ) → 10 ≤ n → n < 16 → kept ≡ length (part_lines 0 part) → count ≡ length part → kept + count ≡ length (part_lines n part)
high_number n part kept count low high is many =
    let digits : 1 + 1 ≡ length (decimal n) = more_digits n 1 low (omega (arith, high)) (one_digit (n / 10) (omega (arith, high))) in
    let lines = two_digit_lines n part (omega (arith, digits)) in
    omega (arith, is, many, lines)

pub few_digits : (n d : ℕ) → n < 2 ^ 64 → d ≡ length (decimal n) → d ≤ 20
few_digits n d h is = let short = length-decimal-le 20 n (omega arith) (omega (arith, h)) h in omega (arith, short, is)
