-- What an edit does to the length of a part's lines.
use Rattle.std.proofs.Common.{◌≡◌, ℕ, ◌+◌, ◌≤◌, Bool, true, false, cond, List, [], ◌∷◌, length, Option, Some, None, refl, ap, sym, ◌∙◌, arith, length-append, unwrap_or}
use Rattle.std.specs.BTreeMap.{is_at, insert_entry}
use Rattle.std.specs.List.{flat_map, AllByRecursion}
use Rattle.std.specs.List.Sorted.{IsStrictlySortedBy}
use Rattle.std.specs.Map.{lookup, keys_of, remove_entry}
use Rattle.std.specs.Ordering.{match_ordering, is_eq}
use Rattle.std.specs.declared.cmp.Ordering.{Ordering}
use Rattle.std.specs.declared.cmp.Ordering.TheVariants.{Less, Equal, Greater}
use Rattle.std.proofs.lemmas.Bool.{cond-true, cond-false}
use Rattle.std.proofs.lemmas.Map.{lookup-none}
use Rattle.std.proofs.lemmas.Map.Entries.{none_below_head}
use Rattle.formula_base.specs.Ranges.{Position, position_cmp}
use Rattle.part_calc.specs.Parts.{Part, text_at, with_text}
use Rattle.part_calc.specs.Kept.{IsEntry, IsPart}
use Rattle.part_calc.specs.Text.{cell_line, line_at, part_lines}
use Rattle.part_calc.proofs.PositionLaws.{positions_total, exact_positions, at_one}

-- the text that a look-up finds
found : Option (List ℕ) → List ℕ
found o = unwrap_or o []

lines_of : ℕ → Part → ℕ
lines_of n part = length (part_lines n part)

lines_cons : (n : ℕ) (e : Position × List ℕ) (part : Part) → lines_of n (e ∷ part) ≡ length (cell_line n e) + lines_of n part
unfolding lines_of part_lines
lines_cons n e part = length-append (cell_line n e) (flat_map (cell_line n) part)

lines_none : (n : ℕ) → lines_of n [] ≡ 0
unfolding lines_of part_lines
lines_none n = refl

-- the line of a cell that has a text
line_some : (n : ℕ) (e : Position × List ℕ) → 1 ≤ length e.1 → line_at n e.0 e.1 ≡ cell_line n e
line_some n e h = by e.0 e.1 h
  where
    by : (p : Position) (raw : List ℕ) → 1 ≤ length raw → line_at n p raw ≡ cell_line n (p, raw)
    by p [] none = absurd (omega arith)
    by p (c ∷ raw) some = refl

-- a text that is put
inserted : (n : ℕ) (part : Part) (p : Position) (c : ℕ) (raw : List ℕ) → AllByRecursion IsEntry part → IsStrictlySortedBy position_cmp (keys_of part)
    → lines_of n (insert_entry position_cmp part p (c ∷ raw)) + length (line_at n p (found (lookup (is_at (position_cmp p)) part))) ≡ lines_of n part + length (cell_line n (p, c ∷ raw))
unfolding found IsStrictlySortedBy
inserted n [] p c raw all sorted =
    let one = lines_cons n (p, c ∷ raw) [] in let none = lines_none n in omega (arith, one, none)
inserted n (e ∷ part) p c raw all sorted = by (position_cmp p e.0) refl (inserted n part p c raw all.1 sorted.1)
  where
    text : List ℕ
    text = c ∷ raw

    cell : Position × List ℕ
    cell = (p, text)

    by : (o : Ordering) → position_cmp p e.0 ≡ o → lines_of n (insert_entry position_cmp part p text) + length (line_at n p (found (lookup (is_at (position_cmp p)) part))) ≡ lines_of n part + length (cell_line n cell)
        → lines_of n (match_ordering o ((p, text) ∷ e ∷ part) ((e.0, text) ∷ part) (e ∷ insert_entry position_cmp part p text)) + length (line_at n p (found (cond (is_at (position_cmp p) e.0) (Some e.1) (lookup (is_at (position_cmp p)) part)))) ≡ lines_of n (e ∷ part) + length (cell_line n cell)
    by Less h ih =
        let none : lookup (is_at (position_cmp p)) (e ∷ part) ≡ None = lookup-none (is_at (position_cmp p)) (e ∷ part) (none_below_head positions_total p e part sorted h) in
        let empty : length (line_at n p (found (lookup (is_at (position_cmp p)) (e ∷ part)))) ≡ 0 = ap (λ (o : Option (List ℕ)). length (line_at n p (found o))) none in
        let line = lines_cons n (p, text) (e ∷ part) in
        omega (arith, empty, line)
    by Equal h ih =
        let same : p ≡ e.0 = exact_positions p e.0 h in
        let here : lookup (is_at (position_cmp p)) (e ∷ part) ≡ Some e.1 = cond-true (is_at (position_cmp p) e.0) (Some e.1) (lookup (is_at (position_cmp p)) part) (ap is_eq h) in
        let old : length (line_at n p (found (lookup (is_at (position_cmp p)) (e ∷ part)))) ≡ length (cell_line n e) =
        ap (λ (o : Option (List ℕ)). length (line_at n p (found o))) here ∙ ap (λ (q : Position). length (line_at n q e.1)) same ∙ ap length (line_some n e (all.0).some) in
        let line = lines_cons n (e.0, text) part in
        let more = lines_cons n e part in
        let new : length (cell_line n (e.0, text)) ≡ length (cell_line n cell) = ap (λ (q : Position). length (cell_line n (q, text))) (sym same) in
        omega (arith, old, line, more, new)
    by Greater h ih =
        let apart : is_at (position_cmp p) e.0 ≡ false = ap is_eq h in
        let over : length (line_at n p (found (lookup (is_at (position_cmp p)) (e ∷ part)))) ≡ length (line_at n p (found (lookup (is_at (position_cmp p)) part))) =
        ap (λ (o : Option (List ℕ)). length (line_at n p (found o))) (cond-false (is_at (position_cmp p) e.0) (Some e.1) (lookup (is_at (position_cmp p)) part) apart) in
        let line = lines_cons n e (insert_entry position_cmp part p text) in
        let more = lines_cons n e part in
        omega (arith, ih, over, line, more)

-- a text that is taken out
removed : (n : ℕ) (part : Part) (p : Position) → AllByRecursion IsEntry part
    → lines_of n (remove_entry (is_at (position_cmp p)) part) + length (line_at n p (found (lookup (is_at (position_cmp p)) part))) ≡ lines_of n part
unfolding found
removed n [] p all = let none = lines_none n in omega (arith, none)
removed n (e ∷ part) p all = by (is_at (position_cmp p) e.0) refl (removed n part p all.1)
  where
    by : (b : Bool) → is_at (position_cmp p) e.0 ≡ b → lines_of n (remove_entry (is_at (position_cmp p)) part) + length (line_at n p (found (lookup (is_at (position_cmp p)) part))) ≡ lines_of n part
        → lines_of n (cond b part (e ∷ remove_entry (is_at (position_cmp p)) part)) + length (line_at n p (found (cond b (Some e.1) (lookup (is_at (position_cmp p)) part)))) ≡ lines_of n (e ∷ part)
    by true h ih =
        let same : p ≡ e.0 = at_one p e.0 h in
        let old : length (line_at n p e.1) ≡ length (cell_line n e) = ap (λ (q : Position). length (line_at n q e.1)) same ∙ ap length (line_some n e (all.0).some) in
        let more = lines_cons n e part in
        omega (arith, old, more)
    by false h ih =
        let line = lines_cons n e (remove_entry (is_at (position_cmp p)) part) in
        let more = lines_cons n e part in
        omega (arith, ih, line, more)

-- after an edit the lines have the new line's length in place of the old line's
pub edited_length : (n : ℕ) (part : Part) (p : Position) (raw : List ℕ) → IsPart part
    → length (part_lines n (with_text part p raw)) + length (line_at n p (text_at part p)) ≡ length (part_lines n part) + length (line_at n p raw)
unfolding lines_of found with_text text_at
edited_length n part p [] kept = let told = removed n part p kept.entries in omega (arith, told)
edited_length n part p (c ∷ raw) kept = inserted n part p c raw kept.entries kept.ordered
