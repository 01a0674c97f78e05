-- The cells whose shown text an edit changes.
use Rattle.std.proofs.Common.{◌≡◌, ◌↔◌, ◌≢◌, ℕ, Bool, true, false, cond, not, ◌||◌, ◌&&◌, List, [], ◌∷◌, Option, Some, None, Bor, MatchOption, refl, ap, sym, ◌∙◌, ⊎_elim, unwrap_or}
use Rattle.std.specs.Prelude.{fold}
use Rattle.std.specs.BTreeMap.{is_at, insert_entry}
use Rattle.std.specs.BTreeSet.{insert_key}
use Rattle.std.specs.List.{filter, Contains}
use Rattle.std.specs.List.Sorted.{IsStrictlySortedBy}
use Rattle.std.specs.Map.{lookup, keys_of, remove_entry}
use Rattle.std.specs.Option.{is_some, option_copied}
use Rattle.std.specs.Str.{bytes_eq}
use Rattle.std.proofs.lemmas.Bool.{both_ways, or_right, cases_Bool, not_from_true, not_from_false, false_from_ne_true}
use Rattle.std.specs.Cmp.Lexicographic.{same_text}
use Rattle.std.proofs.lemmas.Cmp.{nat_list_eq_equiv}
use Rattle.std.proofs.lemmas.Map.Views.{Contains-from_any, list_any-from_Contains, tells_apart}
use Rattle.std.proofs.lemmas.List.Kept.{IsStrictlySortedBy-filter}
use Rattle.std.proofs.lemmas.Map.Made.{is_some-lookup}
use Rattle.formula_base.specs.Ranges.{Position, position_cmp}
use Rattle.part_calc.specs.declared.contents.Content.{Content}
use Rattle.part_calc.specs.Contents.{content_of, is_formula}
use Rattle.part_calc.specs.Parts.{Part, text_at, with_text, content_at, value_at}
use Rattle.part_calc.specs.Shown.{shown_at, shown_value, differs, changed_cells}
use Rattle.part_calc.specs.Dependants.{Depend}
use Rattle.part_calc.specs.Finding.{is_listed}
use Rattle.part_calc.specs.Fates.{Fates, fate_in, is_fresh, text_shown, IsKept, IsRight}
use Rattle.formula_base.specs.declared.values.Value.{Value}
use Rattle.part_calc.proofs.PositionLaws.{exact_positions, same_positions, lookup_insert, lookup_remove}
use Rattle.part_calc.proofs.TextLaws.{empty_content}
use Rattle.part_calc.proofs.ListLaws.{sorted_fold, listed_fold, listed_filter, same_filters}
use Rattle.part_calc.proofs.ShownLaws.{shown_kept, shown_right}
use Rattle.part_calc.proofs.DependantLaws.{shown_apart}

-- ---- texts and the cells that have one

-- a cell that isn't listed has no text
pub no_text : (part : Part) (p : Position) → is_listed (keys_of part) p ≡ false → text_at part p ≡ []
unfolding text_at
no_text part p none = by (lookup (is_at (position_cmp p)) part) (is_some-lookup (is_at (position_cmp p)) part ∙ none)
  where
    by : (o : Option (List ℕ)) → is_some o ≡ false → unwrap_or o [] ≡ []
    by (Some raw) e = absurd (both_ways true e refl)
    by None e = refl

-- a formula's cell has a text
pub formula_texted : (part : Part) (p : Position) → is_formula (content_at part p) ≡ true → is_listed (keys_of part) p ≡ true
formula_texted part p is =
    ⊎_elim (λ (e : is_listed (keys_of part) p ≡ true). e)
    (λ (e : is_listed (keys_of part) p ≡ false).
    absurd (both_ways false refl (ap is_formula (sym empty_content) ∙ ap (λ (raw : List ℕ). is_formula (content_of raw)) (sym (no_text part p e)) ∙ is)))
    (cases_Bool (is_listed (keys_of part) p))

-- what shows no text
no_text_shown : (part : Part) (p : Position) → text_at part p ≡ [] → shown_at part p ≡ []
unfolding shown_at
no_text_shown part p none =
    ap (λ (raw : List ℕ). cond (is_formula (content_of raw)) (shown_value (value_at part p)) raw) none
    ∙ ap (λ (c : Content). cond (is_formula c) (shown_value (value_at part p)) []) empty_content

-- a cell that has a text after an edit is the cell of the edit or had one before
pub texted_before : (part : Part) (at : Position) (raw : List ℕ) (p : Position) → IsStrictlySortedBy position_cmp (keys_of part) → is_listed (keys_of (with_text part at raw)) p ≡ true → (is_at (position_cmp p) at || is_listed (keys_of part) p) ≡ true
unfolding with_text
texted_before part at [] p sorted h =
    or_right (is_at (position_cmp p) at) (is_listed (keys_of part) p)
    (sym (is_some-lookup (is_at (position_cmp p)) part)
    ∙ by (is_at (position_cmp at) p) (lookup (is_at (position_cmp p)) part) (ap is_some (sym (lookup_remove part at p sorted)) ∙ is_some-lookup (is_at (position_cmp p)) (remove_entry (is_at (position_cmp at)) part) ∙ h))
  where
    by : (b : Bool) (o : Option (List ℕ)) → is_some (cond b None o) ≡ true → is_some o ≡ true
    by true o e = absurd (both_ways false refl e)
    by false o e = e
texted_before part at (c ∷ raw) p sorted h =
    by (is_at (position_cmp p) at) (lookup (is_at (position_cmp p)) part) (is_some-lookup (is_at (position_cmp p)) part)
    (ap is_some (sym (lookup_insert part at (c ∷ raw) p)) ∙ is_some-lookup (is_at (position_cmp p)) (insert_entry position_cmp part at (c ∷ raw)) ∙ h)
  where
    by : (b : Bool) (o : Option (List ℕ)) → is_some o ≡ is_listed (keys_of part) p → is_some (cond b (Some (c ∷ raw)) o) ≡ true → (b || is_listed (keys_of part) p) ≡ true
    by true o is e = refl
    by false o is e = sym is ∙ e

-- ---- the formulas of a part after an edit

pub formulas_cover : (part : Part) (at : Position) (raw : List ℕ) (positions : List Position) → IsStrictlySortedBy position_cmp (keys_of part) → ((p : Position) → is_listed positions p ≡ (is_at (position_cmp p) at || is_listed (keys_of part) p))
    → (p : Position) → is_formula (content_at (with_text part at raw) p) ≡ true → is_listed (filter (λ q. is_formula (content_at (with_text part at raw) q)) positions) p ≡ true
formulas_cover part at raw positions sorted listed p is =
    listed_filter (λ q. is_formula (content_at (with_text part at raw) q)) positions p
    ∙ ap (λ (b : Bool). b && is_listed positions p) is
    ∙ listed p ∙ texted_before part at raw p sorted (formula_texted (with_text part at raw) p is)

-- ---- changes

same_none : (xs ys : List ℕ) → xs ≡ [] → ys ≡ [] → not (bytes_eq xs ys) ≡ false
same_none xs ys x y = ap (λ (zs : List ℕ). not (bytes_eq zs ys)) x ∙ ap (λ (zs : List ℕ). not (bytes_eq [] zs)) y

-- a cell whose shown text differs has a text before or after
differs_texted : (old new : Part) (p : Position) → differs old new p ≡ true → (is_listed (keys_of old) p || is_listed (keys_of new) p) ≡ true
differs_texted old new p d = by (is_listed (keys_of old) p) (is_listed (keys_of new) p) refl refl
  where
    by : (a b : Bool) → is_listed (keys_of old) p ≡ a → is_listed (keys_of new) p ≡ b → (a || b) ≡ true
    by true b x y = refl
    by false true x y = refl
    by false false x y =
        absurd (both_ways (differs old new p) (same_none (shown_at old p) (shown_at new p) (no_text_shown old p (no_text old p x)) (no_text_shown new p (no_text new p y))) d)

-- the cells that differ among those that an edit affects
pub changes_are : (old : Part) (at : Position) (raw : List ℕ) (positions : List Position) (affected : Position → Bool) → IsStrictlySortedBy position_cmp (keys_of old) → IsStrictlySortedBy position_cmp positions → Depend old at affected → ((p : Position) → affected p ≡ true → is_listed positions p ≡ true)
    → filter (differs old (with_text old at raw)) positions ≡ changed_cells old (with_text old at raw)
unfolding changed_cells
changes_are old at raw positions affected sorted ordered depend listed =
    same_filters (differs old (with_text old at raw)) positions (fold (insert_key position_cmp) (keys_of old) (keys_of (with_text old at raw))) ordered (sorted_fold (keys_of old) (keys_of (with_text old at raw)) sorted)
    (λ p d. listed p (reached p d) ∙ sym (listed_fold (keys_of old) (keys_of (with_text old at raw)) p ∙ differs_texted old (with_text old at raw) p d))
  where
    bytes_same : (xs : List ℕ) → bytes_eq xs xs ≡ true
    bytes_same xs = nat_list_eq_equiv.refl xs

    reached : (p : Position) → differs old (with_text old at raw) p ≡ true → affected p ≡ true
    reached p d =
        ⊎_elim (λ (e : affected p ≡ true). e)
        (λ (e : affected p ≡ false).
        absurd (both_ways (differs old (with_text old at raw) p)
        (not_from_true (bytes_eq (shown_at old p) (shown_at (with_text old at raw) p)) (ap (bytes_eq (shown_at old p)) (shown_apart old at raw affected sorted depend p e) ∙ bytes_same (shown_at old p))) d))
        (cases_Bool (affected p))

-- exactly these are listed
pub changed_listed : (old new : Part) (p : Position) → is_listed (changed_cells old new) p ≡ differs old new p
unfolding changed_cells
changed_listed old new p =
    listed_filter (differs old new) (fold (insert_key position_cmp) (keys_of old) (keys_of new)) p
    ∙ by (differs old new p) refl
  where
    by : (b : Bool) → differs old new p ≡ b → (b && is_listed (fold (insert_key position_cmp) (keys_of old) (keys_of new)) p) ≡ b
    by true d = listed_fold (keys_of old) (keys_of new) p ∙ differs_texted old new p d
    by false d = refl

pub changed_ordered : (old new : Part) → IsStrictlySortedBy position_cmp (keys_of old) → IsStrictlySortedBy position_cmp (changed_cells old new)
unfolding changed_cells
changed_ordered old new sorted =
    IsStrictlySortedBy-filter position_cmp (differs old new) (fold (insert_key position_cmp) (keys_of old) (keys_of new)) (sorted_fold (keys_of old) (keys_of new) sorted)

-- ---- for the code

-- what a cell shows by two look-ups
pub old_text_is : (part : Part) (kept : Fates) (p : Position) (cell : Option (Bor (List ℕ))) (found : Option (Bor (Option Value))) (text : List ℕ) → IsKept part kept → option_copied cell ≡ lookup (is_at (position_cmp p)) part → option_copied found ≡ fate_in kept p
    → text ≡ text_shown (unwrap_or (option_copied cell) []) (option_copied found) → text ≡ shown_at part p
unfolding text_at
old_text_is part kept p cell found text right a b is =
    is ∙ ap (λ (o : Option (List ℕ)). text_shown (unwrap_or o []) (option_copied found)) a ∙ ap (text_shown (text_at part p)) b ∙ shown_kept part kept right p

-- the text of a cell, as a look-up lends it
text_of_cell : (part : Part) (p : Position) (cell : Option (Bor (List ℕ))) → MatchOption cell (text_at part p ≡ []) (λ c. c.now ≡ text_at part p) → unwrap_or (option_copied cell) [] ≡ text_at part p
text_of_cell part p None e = sym e
text_of_cell part p (Some c) e = e

-- whether a cell's text differs, by the old text, a look-up and what becomes of its formula
pub differs_is : (old new : Part) (e : Position × Option Value) (text : List ℕ) (cell : Option (Bor (List ℕ))) (r : Bool) → IsRight new e → text ≡ shown_at old e.0 → MatchOption cell (text_at new e.0 ≡ []) (λ c. c.now ≡ text_at new e.0)
    → r ≡ not (bytes_eq text (text_shown (unwrap_or (option_copied cell) []) (Some e.1))) → r ≡ differs old new e.0
differs_is old new e text cell r right before a is =
    is ∙ ap (λ (t : List ℕ). not (bytes_eq t (text_shown (unwrap_or (option_copied cell) []) (Some e.1)))) before
    ∙ ap (λ (t : List ℕ). not (bytes_eq (shown_at old e.0) (text_shown t (Some e.1)))) (text_of_cell new e.0 cell a)
    ∙ ap (λ (t : List ℕ). not (bytes_eq (shown_at old e.0) t)) (shown_right new e right)

-- the formulas of the part after an edit are among those that were picked out
pub computed_cover : (cells edited : Part) (at : Position) (raw : List ℕ) (positions taken computed given : List Position) → IsStrictlySortedBy position_cmp (keys_of cells) → edited ≡ with_text cells at raw
    → ((p : Position) → is_listed positions p ≡ (is_at (position_cmp p) at || is_listed (keys_of cells) p)) → taken ≡ positions → computed ≡ filter (λ p. is_formula (content_at edited p)) taken → given ≡ computed
    → (p : Position) → is_formula (content_at edited p) ≡ true → is_listed given p ≡ true
computed_cover cells edited at raw positions taken computed given sorted is listed taken_is computed_is given_is p kind =
    ap (λ (ps : List Position). is_listed ps p) (given_is ∙ computed_is ∙ ap (filter (λ q. is_formula (content_at edited q))) taken_is)
    ∙ ap (λ (s : Part). is_listed (filter (λ q. is_formula (content_at s q)) positions) p) is
    ∙ formulas_cover cells at raw positions sorted listed p (ap (λ (s : Part). is_formula (content_at s p)) (sym is) ∙ kind)

pub changed_is : (cells edited : Part) (at : Position) (raw : List ℕ) (fresh items taken : Fates) (changed : List Position) → IsStrictlySortedBy position_cmp (keys_of cells) → edited ≡ with_text cells at raw → IsStrictlySortedBy position_cmp (keys_of items)
    → Depend cells at (is_fresh fresh) → ((p : Position) → is_fresh fresh p ≡ true → is_fresh items p ≡ true) → taken ≡ items → changed ≡ filter (differs cells edited) (keys_of taken) → changed ≡ changed_cells cells (with_text cells at raw)
changed_is cells edited at raw fresh items taken changed sorted is ordered depend stay taken_is told =
    told ∙ ap (λ (es : Fates). filter (differs cells edited) (keys_of es)) taken_is ∙ ap (λ (s : Part). filter (differs cells s) (keys_of items)) is
    ∙ changes_are cells at raw (keys_of items) (is_fresh fresh) sorted ordered depend (λ p there. sym (is_some-lookup (is_at (position_cmp p)) items) ∙ stay p there)

-- ---- what a change says of single cells

-- exactly the cells whose shown text differs are among the changes
pub changed_iff : (old new : Part) (p : Position) → Contains (changed_cells old new) p ↔ (shown_at old p ≢ shown_at new p)
changed_iff old new p = (
  λ has same. both_ways (differs old new p) (not_from_true (bytes_eq (shown_at old p) (shown_at new p)) (texts_alike same)) (sym (changed_listed old new p) ∙ list_any-from_Contains same_positions p (changed_cells old new) has),
  λ apart. Contains-from_any (tells_apart exact_positions) p (changed_cells old new) (changed_listed old new p ∙ not_from_false (bytes_eq (shown_at old p) (shown_at new p)) (false_from_ne_true (bytes_eq (shown_at old p) (shown_at new p)) (λ e. apart (same_text (shown_at old p) (shown_at new p) (sym e))))),
)
  where
    bytes_same : (xs : List ℕ) → bytes_eq xs xs ≡ true
    bytes_same xs = nat_list_eq_equiv.refl xs

    texts_alike : shown_at old p ≡ shown_at new p → bytes_eq (shown_at old p) (shown_at new p) ≡ true
    texts_alike same = ap (λ (t : List ℕ). bytes_eq (shown_at old p) t) (sym same) ∙ bytes_same (shown_at old p)
