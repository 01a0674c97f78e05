-- The values of a part: the general laws at its cells.
use Rattle.std.proofs.Common.{◌≡◌, ◌⊎◌, ◌↔◌, ℕ, Bool, true, false, cond, List, [], ◌∷◌, Option, Some, None, map, refl, ap, sym, ◌∙◌, inl, inr, unwrap_or}
use Rattle.std.specs.BTreeMap.{is_at}
use Rattle.std.specs.List.{filter, list_any, list_all, AllByRecursion, Contains}
use Rattle.std.specs.Map.{lookup}
use Rattle.std.proofs.lemmas.Bool.{both_ways, or_left, or_right}
use Rattle.std.proofs.lemmas.Map.Views.{Contains-from_any, tells_apart}
use Rattle.calc_base.specs.Walks.{walks}
use Rattle.calc_base.specs.Laws.{Covers, IsLocal, Follows}
use Rattle.calc_base.proofs.WalkLaws.{circular_iff}
use Rattle.calc_base.proofs.ValueLaws.{value_follows, value_only, found_follows, at_circular}
use Rattle.formula_base.specs.declared.values.Value.{Value}
use Rattle.formula_base.specs.declared.values.Value.TheVariants.{Fault}
use Rattle.formula_base.specs.declared.values.CellFault.TheVariants.{Circ}
use Rattle.formula_base.specs.Ranges.{Position, position_cmp}
use Rattle.part_calc.specs.declared.contents.Content.{Content}
use Rattle.part_calc.specs.declared.contents.Content.TheVariants.{Plain, Formula}
use Rattle.part_calc.specs.Contents.{content_of, is_formula, reads_in, value_with}
use Rattle.part_calc.specs.Parts.{Part, text_at, content_at, formulas, reads_at, step_at, is_circular, value_at}
use Rattle.part_calc.proofs.PositionLaws.{exact_positions}
use Rattle.part_calc.proofs.TextLaws.{empty_content}
use Rattle.part_calc.proofs.LocalLaws.{eval_local}

-- a cell with a formula is among the formulas
formula_listed : (part : Part) (p : Position) → is_formula (content_at part p) ≡ true → list_any (is_at (position_cmp p)) (formulas part) ≡ true
unfolding text_at formulas
formula_listed [] p h = absurd (both_ways true (sym h ∙ ap is_formula empty_content) refl)
formula_listed (e ∷ es) p h =
    step (is_at (position_cmp p) e.0) (is_formula (content_of e.1)) (lookup (is_at (position_cmp p)) es) (filter (λ d. is_formula (content_of d.1)) es) refl refl (formula_listed es p) h
  where
    step : (b k : Bool) (found : Option (List ℕ)) (rest : Part) → is_at (position_cmp p) e.0 ≡ b → is_formula (content_of e.1) ≡ k
        → (is_formula (content_of (unwrap_or found [])) ≡ true → list_any (is_at (position_cmp p)) (map (λ d. d.0) rest) ≡ true)
        → is_formula (content_of (unwrap_or (cond b (Some e.1) found) [])) ≡ true
        → list_any (is_at (position_cmp p)) (map (λ d. d.0) (cond k (e ∷ rest) rest)) ≡ true
    step true true found rest at kind ih is = or_left (is_at (position_cmp p) e.0) (list_any (is_at (position_cmp p)) (map (λ d. d.0) rest)) at
    step true false found rest at kind ih is = absurd (both_ways (is_formula (content_of e.1)) kind is)
    step false true found rest at kind ih is = or_right (is_at (position_cmp p) e.0) (list_any (is_at (position_cmp p)) (map (λ d. d.0) rest)) (ih is)
    step false false found rest at kind ih is = ih is

pub covers : (part : Part) → Covers (reads_at part) (formulas part)
covers part p = by (content_at part p) refl
  where
    by : (c : Content) → content_at part p ≡ c → (reads_in c ≡ []) ⊎ Contains (formulas part) p
    by (Plain v) is = inl refl
    by (Formula e) is = inr (Contains-from_any (tells_apart exact_positions) p (formulas part) (formula_listed part p (ap is_formula is)))

pub local : (part : Part) → IsLocal (reads_at part) (step_at part)
local part p f g = by (content_at part p)
  where
    by : (c : Content) → AllByRecursion (λ r. f r ≡ g r) (reads_in c) → value_with c f ≡ value_with c g
    by (Plain v) agree = refl
    by (Formula e) agree = eval_local f g e agree

pub part_follows : (part : Part) → Follows (Fault Circ) (reads_at part) (formulas part) (step_at part) (value_at part)
unfolding value_at
part_follows part = value_follows (Fault Circ) (reads_at part) (formulas part) (step_at part) (local part)

pub part_only : (part : Part) (v : Position → Value) → Follows (Fault Circ) (reads_at part) (formulas part) (step_at part) v → (p : Position) → v p ≡ value_at part p
unfolding value_at
part_only part v follows = value_only (Fault Circ) (reads_at part) (formulas part) (step_at part) (local part) v follows

pub part_circular : (part : Part) (p : Position) → is_circular part p ≡ true ↔ ((n : ℕ) → walks (reads_at part) n p ≡ true)
unfolding is_circular
part_circular part = circular_iff (reads_at part) (formulas part) (covers part)

-- a circular cell has the error
pub circular_value : (part : Part) (p : Position) → is_circular part p ≡ true → value_at part p ≡ Fault Circ
unfolding is_circular
circular_value part p h = at_circular (Fault Circ) (reads_at part) (formulas part) (step_at part) (value_at part) (part_follows part) p h

-- a cell without a formula is not circular and has its own value
pub plain_cell : (part : Part) (p : Position) (v : Value) → content_at part p ≡ Plain v → (is_circular part p ≡ false) × (value_at part p ≡ v)
unfolding is_circular value_at
plain_cell part p v is =
    let found = found_follows (Fault Circ) (reads_at part) (formulas part) (step_at part) (covers part) (local part) (λ r. None) (λ c w e. cc) p (ap (λ (c : Content). list_all (λ r. false) (reads_in c)) is) in
    (found.0, found.1 ∙ ap (λ (c : Content). value_with c (λ r. Fault Circ)) is)
