-- What is kept of a part stays right.
use Rattle.std.proofs.Common.{◌≡◌, ◌≢◌, ◌↔◌, ℕ, ◌<◌, Bool, true, false, cond, not, ◌||◌, List, [], ◌∷◌, length, refl, ap, sym, ◌∙◌, subst, arith}
use Rattle.std.specs.Prelude.{Result, Ok, Err, OnOk, OnErr}
use Rattle.std.specs.BTreeMap.{is_at, insert_entry}
use Rattle.std.specs.List.{AllByRecursion, Contains, list_any}
use Rattle.std.specs.List.Sorted.{IsStrictlySortedBy}
use Rattle.std.specs.Map.{keys_of, remove_entry}
use Rattle.std.specs.Ordering.{match_ordering}
use Rattle.std.specs.Str.{IsUtf8}
use Rattle.std.specs.declared.cmp.Ordering.{Ordering}
use Rattle.std.specs.declared.cmp.Ordering.TheVariants.{Less, Equal, Greater}
use Rattle.std.proofs.lemmas.Bool.{both_ways, cond-false}
use Rattle.std.proofs.lemmas.Str.{is_utf8-from_IsUtf8}
use Rattle.sheet_cells.specs.Cells.{IsRaw}
use Rattle.formula_base.specs.Blocks.{Block}
use Rattle.formula_base.specs.Ranges.{Position, position_cmp}
use Rattle.part_calc.specs.Contents.{content_of, is_formula, blocks_in}
use Rattle.part_calc.specs.Parts.{Part, text_at, content_at, with_text}
use Rattle.part_calc.specs.Shown.{shown_at, changed_cells}
use Rattle.part_calc.specs.Kept.{IsEntry, IsPart}
use Rattle.part_calc.specs.Lanes.{Index, is_block, has_span, IsGrown, Knows}
use Rattle.part_calc.specs.Fates.{Fates, fate_in, is_fresh, put_over, IsKept, IsComputed}
use Rattle.part_calc.specs.Text.{part_lines}
use Rattle.part_calc.proofs.PositionLaws.{exact_positions, at_other}
use Rattle.part_calc.proofs.TextLaws.{empty_content, text_same, text_other}
use Rattle.part_calc.proofs.ChangeLaws.{changed_iff, changed_ordered}
use Rattle.part_calc.proofs.FoundLaws.{kept_after, kept_roomy}
use Rattle.part_calc.proofs.KnowLaws.{knows_none, knows_grown, knows_after, formula_elsewhere}

-- a part without cells
empty_kept : (kept : Fates) (index : Index) → IsPart [] × IsKept [] kept × (0 ≡ length (part_lines 0 [])) × Knows [] index
unfolding text_at IsStrictlySortedBy part_lines
empty_kept kept index = (
  record { ordered = tt; entries = tt },
  λ p is. absurd (both_ways false refl (ap is_formula (sym empty_content) ∙ is)),
  refl,
  knows_none [] index refl,
)

-- a part without cells is one
pub none_is_part : (part : Part) → part ≡ [] → IsPart part
unfolding IsStrictlySortedBy
none_is_part part none = subst IsPart (sym none) (record { ordered = tt; entries = tt })

pub none_kept : (part : Part) (kept : Fates) (index : Index) → part ≡ [] → IsPart part × IsKept part kept × (0 ≡ length (part_lines 0 part)) × Knows part index
none_kept part kept index none = subst (λ (s : Part). IsPart s × IsKept s kept × (0 ≡ length (part_lines 0 s)) × Knows s index) (sym none) (empty_kept kept index)

-- entries keep to what they are
remove_keeps : (P : Position × List ℕ → Type 0) (test : Position → Bool) (part : Part) → AllByRecursion P part → AllByRecursion P (remove_entry test part)
remove_keeps P test [] all = tt
remove_keeps P test (e ∷ part) all = by (test e.0) (remove_keeps P test part all.1)
  where
    by : (b : Bool) → AllByRecursion P (remove_entry test part) → AllByRecursion P (cond b part (e ∷ remove_entry test part))
    by true ih = all.1
    by false ih = (all.0, ih)

insert_keeps : (P : Position × List ℕ → Type 0) (part : Part) (k : Position) (raw : List ℕ) → AllByRecursion P part → P (k, raw) → AllByRecursion P (insert_entry position_cmp part k raw)
insert_keeps P [] k raw all here = (here, tt)
insert_keeps P (e ∷ part) k raw all here = by (position_cmp k e.0) refl (insert_keeps P part k raw all.1 here)
  where
    by : (o : Ordering) → position_cmp k e.0 ≡ o → AllByRecursion P (insert_entry position_cmp part k raw) → AllByRecursion P (match_ordering o ((k, raw) ∷ e ∷ part) ((e.0, raw) ∷ part) (e ∷ insert_entry position_cmp part k raw))
    by Less h ih = (here, all)
    by Equal h ih = (subst (λ (q : Position). P (q, raw)) (exact_positions k e.0 h) here, all.1)
    by Greater h ih = (all.0, ih)

entries_kept : (part : Part) (at : Position) (raw : List ℕ) → AllByRecursion IsEntry part → at.0 < 4096 → at.1 < 256 → IsRaw raw → IsUtf8 raw → AllByRecursion IsEntry (with_text part at raw)
unfolding with_text
entries_kept part at [] all row column valid utf8 = remove_keeps IsEntry (is_at (position_cmp at)) part all
entries_kept part at (c ∷ raw) all row column valid utf8 =
    insert_keeps IsEntry part at (c ∷ raw) all (record { row = row; column = column; some = omega arith; raw = valid; utf8 = is_utf8-from_IsUtf8 (c ∷ raw) utf8 })

-- a text that was put
pub put_kept : (inside after : Part) (at : Position) (cell raw : List ℕ) → IsPart inside → at.0 < 4096 → at.1 < 256 → IsRaw raw → IsUtf8 raw → cell ≡ raw → after ≡ with_text inside at cell → IsStrictlySortedBy position_cmp (keys_of after) → IsPart after
put_kept inside after at cell raw part row column valid utf8 is put sorted = record {
  ordered = sorted;
  entries = subst (AllByRecursion IsEntry) (sym put) (subst (λ (r : List ℕ). AllByRecursion IsEntry (with_text inside at r)) (sym is) (entries_kept inside at raw part.entries row column valid utf8));
}

-- an edit
pub set_kept : (inside after : Part) (at : Position) (cell raw : List ℕ) (kept roomy put tidied computed : Fates) (index learned forgotten : Index) (long : ℕ) → IsPart inside → IsKept inside kept → Knows inside index → at.0 < 4096 → at.1 < 256 → IsRaw raw → IsUtf8 raw → cell ≡ raw → after ≡ with_text inside at cell → IsStrictlySortedBy position_cmp (keys_of after)
    → long ≡ length (part_lines 0 (with_text inside at raw)) → IsComputed inside at cell kept computed
    → ((p : Position) → is_fresh kept p ≡ true → fate_in roomy p ≡ fate_in kept p) → (is_formula (content_of cell) ≡ true → is_fresh roomy at ≡ true)
    → ((p : Position) → is_fresh roomy p ≡ true → fate_in put p ≡ put_over (fate_in computed p) (fate_in roomy p))
    → ((p : Position) → is_formula (content_at after p) ≡ true → fate_in tidied p ≡ fate_in put p)
    → IsGrown index learned → ((b : Block) → list_any (is_block b) (blocks_in (content_of cell)) ≡ true → has_span learned b at ≡ true)
    → ((b : Block) (c : Position) → has_span learned b c ≡ true → (not (is_at (position_cmp c) at) || list_any (is_block b) (blocks_in (content_at after at))) ≡ true → has_span forgotten b c ≡ true)
    → IsPart after × IsKept after tidied × (long ≡ length (part_lines 0 after)) × Knows after forgotten
set_kept inside after at cell raw kept roomy put tidied computed index learned forgotten long part is knows row column valid utf8 same there sorted told right stay room over tidy grown added forget = (
  put_kept inside after at cell raw part row column valid utf8 same there sorted,
  subst (λ (s : Part). IsKept s tidied) (sym there)
      (kept_after inside at cell kept roomy put tidied computed part.ordered is right stay
      (λ kind. room (ap (λ (r : List ℕ). is_formula (content_of r)) (sym (text_same inside at cell part.ordered)) ∙ kind))
      (formula_elsewhere inside at cell part.ordered) over
      (λ p kind. tidy p (ap (λ (s : Part). is_formula (content_at s p)) there ∙ kind))),
  told ∙ ap (λ (r : List ℕ). length (part_lines 0 (with_text inside at r))) (sym same) ∙ ap (λ (s : Part). length (part_lines 0 s)) (sym there),
  subst (λ (s : Part). Knows s forgotten) (sym there)
      (knows_after inside at cell index learned forgotten part.ordered knows grown added
      (λ b c has stays. forget b c has (ap (λ (s : Part). not (is_at (position_cmp c) at) || list_any (is_block b) (blocks_in (content_at s at))) there ∙ stays))),
)

-- an edit that failed
pub failed_kept : (inside : Part) (kept roomy : Fates) (index learned : Index) (long : ℕ) → IsPart inside × IsKept inside kept × (long ≡ length (part_lines 0 inside)) × Knows inside index → ((p : Position) → is_fresh kept p ≡ true → fate_in roomy p ≡ fate_in kept p) → IsGrown index learned
    → IsPart inside × IsKept inside roomy × (long ≡ length (part_lines 0 inside)) × Knows inside learned
failed_kept inside kept roomy index learned long held stay grown = (held.0, kept_roomy inside kept roomy held.1 stay, held.2, knows_grown inside index learned held.3 grown)

-- what it answers
pub set_exactly : (inside before after : Part) (at : Position) (cell : List ℕ) (changed : List Position) → inside ≡ before → after ≡ with_text inside at cell → changed ≡ changed_cells inside (with_text inside at cell) → (p : Position) → Contains changed p ↔ (shown_at before p ≢ shown_at after p)
set_exactly inside before after at cell changed view put told p =
    subst (λ (ps : List Position). Contains ps p ↔ (shown_at before p ≢ shown_at after p))
    (sym (told ∙ ap (changed_cells inside) (sym put) ∙ ap (λ (s : Part). changed_cells s after) view)) (changed_iff before after p)

pub set_in_order : (inside : Part) (at : Position) (cell : List ℕ) (changed : List Position) → IsPart inside → changed ≡ changed_cells inside (with_text inside at cell) → IsStrictlySortedBy position_cmp changed
set_in_order inside at cell changed part told = subst (IsStrictlySortedBy position_cmp) (sym told) (changed_ordered inside (with_text inside at cell) part.ordered)

pub set_there : (inside after : Part) (at : Position) (cell raw : List ℕ) → IsPart inside → cell ≡ raw → after ≡ with_text inside at cell → text_at after at ≡ raw
set_there inside after at cell raw part is put = ap (λ (s : Part). text_at s at) put ∙ text_same inside at cell part.ordered ∙ is

pub set_elsewhere : (inside before after : Part) (at : Position) (cell : List ℕ) → IsPart inside → inside ≡ before → after ≡ with_text inside at cell → (other : Position) → other ≢ at → text_at after other ≡ text_at before other
set_elsewhere inside before after at cell part view put other apart =
    ap (λ (s : Part). text_at s other) put ∙ text_other inside at cell other part.ordered apart ∙ ap (λ (s : Part). text_at s other) view

-- ---- a cell outside a part

outside_differs : (e : Position × List ℕ) → IsEntry e → is_at (position_cmp (4096, 0)) e.0 ≡ false
outside_differs e entry = at_other (4096, 0) e.0 (λ same. let row : e.0.0 ≡ 4096 = sym (ap (λ (p : Position). p.0) same) in let low = entry.row in absurd (omega (arith, row, low)))

outside_removed : (part : Part) → AllByRecursion IsEntry part → remove_entry (is_at (position_cmp (4096, 0))) part ≡ part
outside_removed [] all = refl
outside_removed (e ∷ part) all =
    cond-false (is_at (position_cmp (4096, 0)) e.0) part (e ∷ remove_entry (is_at (position_cmp (4096, 0))) part) (outside_differs e all.0)
    ∙ ap (λ (s : Part). e ∷ s) (outside_removed part all.1)

pub outside_same : (part : Part) (raw : List ℕ) → IsPart part → raw ≡ [] → with_text part (4096, 0) raw ≡ part
unfolding with_text
outside_same part raw kept none = ap (with_text part (4096, 0)) none ∙ outside_removed part kept.entries

-- an edit whose text found no room
pub failed_put : (inside after : Part) (kept roomy : Fates) (index learned : Index) (long : ℕ) → after ≡ inside → IsPart inside × IsKept inside kept × (long ≡ length (part_lines 0 inside)) × Knows inside index → ((p : Position) → is_fresh kept p ≡ true → fate_in roomy p ≡ fate_in kept p) → IsGrown index learned
    → IsPart after × IsKept after roomy × (long ≡ length (part_lines 0 after)) × Knows after learned
failed_put inside after kept roomy index learned long same held stay grown =
    subst (λ (s : Part). IsPart s × IsKept s roomy × (long ≡ length (part_lines 0 s)) × Knows s learned) (sym same) (failed_kept inside kept roomy index learned long held stay grown)

-- a text that was put, or not
pub added_kept : {T E : Type 0} (inside after : Part) (at : Position) (cell raw : List ℕ) (r : Result T E) → IsPart inside → at.0 < 4096 → at.1 < 256 → IsRaw raw → IsUtf8 raw → cell ≡ raw
    → OnOk r (after ≡ with_text inside at cell) → OnOk r (IsStrictlySortedBy position_cmp (keys_of after)) → OnErr r (after ≡ inside) → IsPart after
added_kept inside after at cell raw (Ok x) part row column valid utf8 is put sorted same = put_kept inside after at cell raw part row column valid utf8 is put sorted
added_kept inside after at cell raw (Err e) part row column valid utf8 is put sorted same = subst IsPart (sym same) part
