-- The text of a cell after an edit.
use Rattle.std.proofs.Common.{◌≡◌, ◌≢◌, ℕ, false, List, [], ◌∷◌, Option, Some, None, Bor, MatchOption, refl, ap, sym, ◌∙◌, unwrap_or}
use Rattle.std.specs.Option.{option_copied}
use Rattle.std.specs.BTreeMap.{is_at}
use Rattle.std.specs.List.Sorted.{IsStrictlySortedBy}
use Rattle.std.specs.Map.{lookup, keys_of}
use Rattle.std.proofs.lemmas.Bool.{cond-true, cond-false}
use Rattle.formula_base.specs.Ranges.{Position, position_cmp}
use Rattle.formula_base.specs.declared.values.Value.TheVariants.{Empty}
use Rattle.sheet_formula.specs.Grammar.{formula_of}
use Rattle.part_calc.specs.declared.contents.Content.TheVariants.{Plain}
use Rattle.part_calc.specs.Contents.{content_of, is_formula}
use Rattle.part_calc.specs.Parts.{Part, text_at, with_text, content_at}
use Rattle.part_calc.proofs.PositionLaws.{at_itself, at_other, lookup_insert, lookup_remove}

the_text : Option (List ℕ) → List ℕ
the_text o = unwrap_or o []

-- at the cell of the edit it is the new one
pub text_same : (part : Part) (p : Position) (raw : List ℕ) → IsStrictlySortedBy position_cmp (keys_of part) → text_at (with_text part p raw) p ≡ raw
unfolding text_at with_text the_text
text_same part p [] sorted = ap the_text (lookup_remove part p p sorted ∙ cond-true (is_at (position_cmp p) p) None (lookup (is_at (position_cmp p)) part) (at_itself p))
text_same part p (c ∷ raw) sorted = ap the_text (lookup_insert part p (c ∷ raw) p ∙ cond-true (is_at (position_cmp p) p) (Some (c ∷ raw)) (lookup (is_at (position_cmp p)) part) (at_itself p))

-- at another cell it is what it was
pub text_other : (part : Part) (p : Position) (raw : List ℕ) (q : Position) → IsStrictlySortedBy position_cmp (keys_of part) → q ≢ p → text_at (with_text part p raw) q ≡ text_at part q
unfolding text_at with_text the_text
text_other part p [] q sorted differs = ap the_text (lookup_remove part p q sorted ∙ cond-false (is_at (position_cmp p) q) None (lookup (is_at (position_cmp q)) part) (at_other p q (λ e. differs (sym e))))
text_other part p (c ∷ raw) q sorted differs = ap the_text (lookup_insert part p (c ∷ raw) q ∙ cond-false (is_at (position_cmp q) p) (Some (c ∷ raw)) (lookup (is_at (position_cmp q)) part) (at_other q p differs))

-- an empty text has the value Empty
pub empty_content : content_of [] ≡ Plain Empty
unfolding content_of formula_of
empty_content = refl

pub no_formula : (part : Part) (p : Position) → text_at part p ≡ [] → is_formula (content_at part p) ≡ false
no_formula part p none = ap (λ (raw : List ℕ). is_formula (content_of raw)) none ∙ ap is_formula empty_content

-- the cell of the edit
pub cell_here : (cells part : Part) (p q : Position) (raw : List ℕ) → IsStrictlySortedBy position_cmp (keys_of cells) → with_text cells p raw ≡ part → q ≡ p → raw ≡ text_at part q
cell_here cells part p q raw sorted view same =
    sym (text_same cells p raw sorted) ∙ ap (λ (r : Position). text_at (with_text cells p raw) r) (sym same) ∙ ap (λ (s : Part). text_at s q) view

-- another cell, as a look-up lends it
pub cell_there : (cells part : Part) (p q : Position) (raw : List ℕ) → IsStrictlySortedBy position_cmp (keys_of cells) → with_text cells p raw ≡ part → q ≢ p → (found : Option (Bor (List ℕ))) → option_copied found ≡ lookup (is_at (position_cmp q)) cells
    → MatchOption found (text_at part q ≡ []) (λ cell. cell.now ≡ text_at part q)
unfolding text_at the_text
cell_there cells part p q raw sorted view differs None is =
    sym (ap (λ (s : Part). text_at s q) view) ∙ text_other cells p raw q sorted differs ∙ ap the_text (sym is)
cell_there cells part p q raw sorted view differs (Some cell) is =
    ap the_text is ∙ sym (text_other cells p raw q sorted differs) ∙ ap (λ (s : Part). text_at s q) view

pub empty_at : (part : Part) (p : Position) → text_at part p ≡ [] → content_at part p ≡ Plain Empty
empty_at part p none = ap content_of none ∙ empty_content
