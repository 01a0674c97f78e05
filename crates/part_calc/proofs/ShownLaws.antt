-- The shown texts by what is kept.
use Rattle.std.proofs.Common.{◌≡◌, ℕ, Bool, true, false, cond, List, [], Option, Some, None, Bor, refl, ap, sym, ◌∙◌, unwrap_or}
use Rattle.std.specs.Option.{option_copied}
use Rattle.formula_base.specs.declared.values.Value.{Value}
use Rattle.formula_base.specs.declared.values.Value.TheVariants.{Fault}
use Rattle.formula_base.specs.declared.values.CellFault.TheVariants.{Circ}
use Rattle.formula_base.specs.Ranges.{Position}
use Rattle.part_calc.specs.declared.contents.Content.{Content}
use Rattle.part_calc.specs.Contents.{is_formula}
use Rattle.part_calc.specs.Parts.{Part, text_at, content_at, is_circular, value_at}
use Rattle.part_calc.specs.Shown.{shown_at, shown_value}
use Rattle.part_calc.specs.Fates.{Fates, fate_at, fate_in, fate_shown, text_shown, IsKept, IsRight}
use Rattle.part_calc.proofs.PartLaws.{circular_value}
use Rattle.part_calc.proofs.TextLaws.{empty_content}

-- a circular cell has the error, another its value
pub fate_value : (part : Part) (p : Position) → unwrap_or (fate_at part p) (Fault Circ) ≡ value_at part p
unfolding fate_at
fate_value part p = by (is_circular part p) refl
  where
    by : (b : Bool) → is_circular part p ≡ b → unwrap_or (cond b None (Some (value_at part p))) (Fault Circ) ≡ value_at part p
    by true is = sym (circular_value part p is)
    by false is = refl

-- what a cell shows of which a right fate stands
pub fate_right : (part : Part) (p : Position) (o : Option (Option Value)) → (is_formula (content_at part p) ≡ true → o ≡ Some (fate_at part p)) → text_shown (text_at part p) o ≡ shown_at part p
unfolding shown_at
fate_right part p o right = by (is_formula (content_at part p)) refl
  where
    by : (b : Bool) → is_formula (content_at part p) ≡ b → cond b (fate_shown o) (text_at part p) ≡ cond b (shown_value (value_at part p)) (text_at part p)
    by true is = ap fate_shown (right is) ∙ ap shown_value (fate_value part p)
    by false is = refl

-- what a cell shows, by what is kept
pub shown_kept : (part : Part) (kept : Fates) → IsKept part kept → (p : Position) → text_shown (text_at part p) (fate_in kept p) ≡ shown_at part p
shown_kept part kept is p = fate_right part p (fate_in kept p) (is p)

-- and by what was computed
pub shown_right : (part : Part) (e : Position × Option Value) → IsRight part e → text_shown (text_at part e.0) (Some e.1) ≡ shown_at part e.0
shown_right part e right = fate_right part e.0 (Some e.1) (λ is. ap Some (right is))

-- a cell without a text shows none
pub text_none : (cell : Option (Bor (List ℕ))) (found : Option (Bor (Option Value))) → cell ≡ None → [] ≡ text_shown (unwrap_or (option_copied cell) []) (option_copied found)
text_none cell found none =
    sym (ap (λ (c : Option (Bor (List ℕ))). text_shown (unwrap_or (option_copied c) []) (option_copied found)) none
    ∙ ap (λ (c : Content). cond (is_formula c) (fate_shown (option_copied found)) []) empty_content)
