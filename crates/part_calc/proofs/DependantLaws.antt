-- Cells that don't depend on the edited one stay as they are.
use Rattle.std.proofs.Common.{◌≡◌, ◌≢◌, ℕ, Bool, true, false, not, List, [], ◌∷◌, refl, ap, sym, ◌∙◌}
use Rattle.std.specs.Prelude.{if◌then◌else◌}
use Rattle.std.specs.List.{list_all}
use Rattle.std.specs.List.Sorted.{IsStrictlySortedBy}
use Rattle.std.specs.Map.{keys_of}
use Rattle.std.specs.BTreeMap.{is_at}
use Rattle.std.proofs.lemmas.Bool.{both_ways, and_from, or_left, or_right}
use Rattle.calc_base.specs.Edits.{IsApart}
use Rattle.calc_base.proofs.EditLaws.{circular_kept, value_kept}
use Rattle.formula_base.specs.declared.values.Value.{Value}
use Rattle.formula_base.specs.declared.values.Value.TheVariants.{Fault}
use Rattle.formula_base.specs.declared.values.CellFault.TheVariants.{Circ}
use Rattle.formula_base.specs.Ranges.{Position, position_cmp}
use Rattle.part_calc.specs.declared.contents.Content.{Content}
use Rattle.part_calc.specs.Contents.{content_of, is_formula, reads_in, value_with}
use Rattle.part_calc.specs.Parts.{Part, text_at, with_text, content_at, formulas, reads_at, step_at, is_circular, value_at}
use Rattle.part_calc.specs.Shown.{shown_at, shown_value}
use Rattle.part_calc.specs.Finding.{is_listed}
use Rattle.part_calc.specs.Dependants.{Depend}
use Rattle.part_calc.proofs.PositionLaws.{at_itself}
use Rattle.part_calc.proofs.TextLaws.{text_other}
use Rattle.part_calc.proofs.PartLaws.{covers, local}

-- the cell stays
pub kept_in : (Position → Bool) → Position → Bool
kept_in affected c = not (affected c)

unaffected : (b : Bool) → not b ≡ true → b ≡ false
unaffected true h = cc
unaffected false h = refl

stays : (b : Bool) → b ≡ false → not b ≡ true
stays true h = cc
stays false h = refl

-- another cell than the edited one
elsewhere : (part : Part) (at : Position) (affected : Position → Bool) → Depend part at affected → (c : Position) → affected c ≡ false → c ≢ at
elsewhere part at affected depend c is same = both_ways (affected at) (sym (ap affected same) ∙ is) depend.start

pub same_content : (part : Part) (at : Position) (raw : List ℕ) (affected : Position → Bool) → IsStrictlySortedBy position_cmp (keys_of part) → Depend part at affected → (c : Position) → affected c ≡ false → content_at (with_text part at raw) c ≡ content_at part c
same_content part at raw affected sorted depend c is = ap content_of (text_other part at raw c sorted (elsewhere part at affected depend c is))

-- a cell that stays reads cells that stay
reads_stay : (affected : Position → Bool) (rs : List Position) → ((r : Position) → is_listed rs r ≡ true → affected r ≡ false) → list_all (kept_in affected) rs ≡ true
unfolding kept_in
reads_stay affected [] none = refl
reads_stay affected (r ∷ rs) none =
    and_from (not (affected r)) (list_all (λ c. not (affected c)) rs)
    (stays (affected r) (none r (or_left (is_at (position_cmp r) r) (is_listed rs r) (at_itself r))))
    (reads_stay affected rs (λ q listed. none q (or_right (is_at (position_cmp q) r) (is_listed rs q) listed)))

read_stays : (part : Part) (at : Position) (affected : Position → Bool) → Depend part at affected → (c : Position) → affected c ≡ false → (r : Position) → is_listed (reads_at part c) r ≡ true → affected r ≡ false
read_stays part at affected depend c is r listed = by (affected r) refl
  where
    by : (b : Bool) → affected r ≡ b → b ≡ false
    by true e = absurd (both_ways (affected c) is (depend.closed c r e listed))
    by false e = refl

pub edit_apart : (part : Part) (at : Position) (raw : List ℕ) (affected : Position → Bool) → IsStrictlySortedBy position_cmp (keys_of part) → Depend part at affected
    → IsApart (reads_at part) (reads_at (with_text part at raw)) (step_at part) (step_at (with_text part at raw)) (kept_in affected)
unfolding kept_in
edit_apart part at raw affected sorted depend = record {
  same_reads = λ c is. ap reads_in (same_content part at raw affected sorted depend c (unaffected (affected c) is));
  same_step = λ c f is. ap (λ (x : Content). value_with x f) (same_content part at raw affected sorted depend c (unaffected (affected c) is));
  closed = λ c is. reads_stay affected (reads_at part c) (read_stays part at affected depend c (unaffected (affected c) is));
}

-- they are circular where they were
pub circular_apart : (part : Part) (at : Position) (raw : List ℕ) (affected : Position → Bool) → IsStrictlySortedBy position_cmp (keys_of part) → Depend part at affected → (c : Position) → affected c ≡ false → is_circular (with_text part at raw) c ≡ is_circular part c
unfolding is_circular kept_in
circular_apart part at raw affected sorted depend c is =
    let new = with_text part at raw in
    circular_kept (reads_at part) (reads_at new) (formulas part) (formulas new) (step_at part) (step_at new) (kept_in affected) (covers part) (covers new) (edit_apart part at raw affected sorted depend) c (stays (affected c) is)

-- have the values that they had
pub value_apart : (part : Part) (at : Position) (raw : List ℕ) (affected : Position → Bool) → IsStrictlySortedBy position_cmp (keys_of part) → Depend part at affected → (c : Position) → affected c ≡ false → value_at (with_text part at raw) c ≡ value_at part c
unfolding value_at kept_in
value_apart part at raw affected sorted depend c is =
    let new = with_text part at raw in
    value_kept (Fault Circ) (reads_at part) (reads_at new) (formulas part) (formulas new) (step_at part) (step_at new) (kept_in affected) (covers part) (covers new) (local part) (local new) (edit_apart part at raw affected sorted depend) c (stays (affected c) is)

-- and show what they showed
pub shown_apart : (part : Part) (at : Position) (raw : List ℕ) (affected : Position → Bool) → IsStrictlySortedBy position_cmp (keys_of part) → Depend part at affected → (c : Position) → affected c ≡ false → shown_at (with_text part at raw) c ≡ shown_at part c
unfolding shown_at
shown_apart part at raw affected sorted depend c is =
    let new = with_text part at raw in
    ap (λ (x : Content). if is_formula x then shown_value (value_at new c) else text_at new c) (same_content part at raw affected sorted depend c is)
    ∙ ap (λ (v : Value). if is_formula (content_at part c) then shown_value v else text_at new c) (value_apart part at raw affected sorted depend c is)
    ∙ ap (λ (t : List ℕ). if is_formula (content_at part c) then shown_value (value_at part c) else t) (text_other part at raw c sorted (elsewhere part at affected depend c is))
