-- An edit from its walk to what is kept after it.
use Rattle.std.proofs.Common.{◌≡◌, ℕ, true, List, [], sym, ◌∙◌, subst}
use Rattle.std.specs.Prelude.{Result, Ok, Err, IfOk}
use Rattle.std.specs.BTreeMap.{is_at}
use Rattle.std.specs.List.{filter}
use Rattle.std.specs.List.Sorted.{IsStrictlySortedBy}
use Rattle.std.specs.Map.{keys_of}
use Rattle.formula_base.specs.Ranges.{Position, position_cmp}
use Rattle.part_calc.specs.Fates.{Fates, is_fresh, found_over, IsKept, IsComputed}
use Rattle.part_calc.specs.Finding.{IsSound, Covers, AreFound}
use Rattle.part_calc.specs.Kept.{IsPart}
use Rattle.part_calc.specs.Lanes.{Index, Knows}
use Rattle.part_calc.specs.Parts.{Part, with_text}
use Rattle.part_calc.specs.Shown.{differs, changed_cells}
use Rattle.part_calc.specs.Walking.{IsReached}
use Rattle.part_calc.proofs.ChangeLaws.{changed_is}
use Rattle.part_calc.proofs.FoundLaws.{edit_sound, edit_covers, edit_computed}
use Rattle.part_calc.proofs.KeptLaws.{outside_same}
use Rattle.part_calc.proofs.KnowLaws.{reached_depends}

pub sound_after : (cells edited : Part) (at : Position) (raw : List ℕ) (index : Index) (fresh kept : Fates) (ordered : List Position) → IsStrictlySortedBy position_cmp (keys_of cells) → edited ≡ with_text cells at raw → Knows cells index → IsKept cells kept → IsReached index (λ c. is_at (position_cmp c) at) fresh ordered
    → IsSound edited (found_over fresh kept)
sound_after cells edited at raw index fresh kept ordered sorted is knows right reached =
    subst (λ (s : Part). IsSound s (found_over fresh kept)) (sym is) (edit_sound cells at raw fresh kept sorted (reached_depends cells index at fresh ordered knows reached) reached.unfound right)

pub covers_after : (cells edited : Part) (at : Position) (raw : List ℕ) (index : Index) (fresh kept : Fates) (ordered : List Position) → IsStrictlySortedBy position_cmp (keys_of cells) → edited ≡ with_text cells at raw → Knows cells index → IsKept cells kept → IsReached index (λ c. is_at (position_cmp c) at) fresh ordered
    → Covers edited (found_over fresh kept) ordered
covers_after cells edited at raw index fresh kept ordered sorted is knows right reached =
    subst (λ (s : Part). Covers s (found_over fresh kept) ordered) (sym is) (edit_covers cells at raw fresh kept ordered sorted (reached_depends cells index at fresh ordered knows reached) reached.listed right)

pub computed_after : (cells edited : Part) (at : Position) (raw : List ℕ) (index : Index) (fresh found kept computed : Fates) (ordered : List Position) → IsStrictlySortedBy position_cmp (keys_of cells) → edited ≡ with_text cells at raw → Knows cells index → IsKept cells kept → IsReached index (λ c. is_at (position_cmp c) at) fresh ordered
    → AreFound edited (found_over found kept) → ((p : Position) → is_fresh fresh p ≡ true → is_fresh found p ≡ true) → computed ≡ found → IsComputed cells at raw kept computed
computed_after cells edited at raw index fresh found kept computed ordered sorted is knows right reached all stay same =
    edit_computed cells at raw fresh found kept computed sorted (reached_depends cells index at fresh ordered knows reached) right (subst (λ (s : Part). AreFound s (found_over found kept)) is all) stay same

pub changed_after : (cells edited : Part) (at : Position) (raw : List ℕ) (index : Index) (fresh found taken : Fates) (ordered changed : List Position) → IsStrictlySortedBy position_cmp (keys_of cells) → edited ≡ with_text cells at raw → Knows cells index → IsReached index (λ c. is_at (position_cmp c) at) fresh ordered
    → ((p : Position) → is_fresh fresh p ≡ true → is_fresh found p ≡ true) → IsStrictlySortedBy position_cmp (keys_of found) → taken ≡ found → changed ≡ filter (differs cells edited) (keys_of taken) → changed ≡ changed_cells cells (with_text cells at raw)
changed_after cells edited at raw index fresh found taken ordered changed sorted is knows reached stay in_order same told =
    changed_is cells edited at raw fresh found taken changed sorted is in_order (reached_depends cells index at fresh ordered knows reached) stay same told

-- what is kept of a part where a cell outside it is emptied
pub kept_outside : {T E : Type 0} (P : Fates → Type 0) (cells edited : Part) (raw : List ℕ) (kept : Result T E) (entries : T → Fates) → IsPart cells → raw ≡ [] → edited ≡ with_text cells (4096, 0) raw → ((k : Fates) → P k → IsKept edited k) → IfOk kept (λ s. P (entries s)) → IfOk kept (λ s. IsKept cells (entries s))
kept_outside P cells edited raw (Ok s) entries part none is from told = subst (λ (p : Part). IsKept p (entries s)) (is ∙ outside_same cells raw part none) (from (entries s) told)
kept_outside P cells edited raw (Err e) entries part none is from told = tt
