-- The cells that an input changes are cells of the part, and there are none where the part stays.
use Rattle.std.proofs.Common.{◌≡◌, ℕ, zero, suc, Bool, true, false, cond, not, List, [], ◌∷◌, map, refl, ap, sym, ◌∙◌, subst, arith}
use Rattle.std.specs.Prelude.{fold}
use Rattle.std.specs.Ordering.{match_ordering}
use Rattle.std.specs.declared.cmp.Ordering.{Ordering}
use Rattle.std.specs.declared.cmp.Ordering.TheVariants.{Less, Equal, Greater}
use Rattle.std.specs.List.{filter, AllByRecursion}
use Rattle.std.specs.Map.{keys_of}
use Rattle.std.specs.BTreeSet.{insert_key}
use Rattle.std.specs.Str.{bytes_eq}
use Rattle.std.proofs.lemmas.Cmp.{nat_list_eq_equiv}
use Rattle.formula_base.specs.Ranges.{Position, position_cmp}
use Rattle.part_calc.specs.Parts.{Part}
use Rattle.part_calc.specs.Kept.{IsEntry, IsPart}
use Rattle.part_calc.proofs.KeptLaws.{none_is_part}
use Rattle.part_calc.specs.Shown.{shown_at, differs, changed_cells}
use Rattle.sheet_calc.specs.Books.{Parts, IsBook, part_at, changed_in}
use Rattle.sheet_calc.specs.declared.changed.Changed.{Changed}
use Rattle.cell_damage.specs.Cells.{IsInReach, damage_of}
use Rattle.cell_damage.proofs.Points.{none_damaged}
use Rattle.sheet_rules.specs.Damage.{IsPosition, damage_between}

keys_positions : (part : Part) → AllByRecursion IsEntry part → AllByRecursion IsPosition (keys_of part)
keys_positions [] all = tt
keys_positions (e ∷ part) all = ((all.0.row, all.0.column), keys_positions part all.1)

insert_positions : (ps : List Position) (p : Position) → AllByRecursion IsPosition ps → IsPosition p → AllByRecursion IsPosition (insert_key position_cmp ps p)
insert_positions [] p all here = (here, tt)
insert_positions (q ∷ qs) p all here = by (position_cmp p q) (insert_positions qs p all.1 here)
  where
    by : (o : Ordering) → AllByRecursion IsPosition (insert_key position_cmp qs p) → AllByRecursion IsPosition (match_ordering o (p ∷ q ∷ qs) (q ∷ qs) (q ∷ insert_key position_cmp qs p))
    by Less ih = (here, all)
    by Equal ih = all
    by Greater ih = (all.0, ih)

fold_positions : (ps qs : List Position) → AllByRecursion IsPosition ps → AllByRecursion IsPosition qs → AllByRecursion IsPosition (fold (insert_key position_cmp) ps qs)
fold_positions ps [] all more = all
fold_positions ps (q ∷ qs) all more = fold_positions (insert_key position_cmp ps q) qs (insert_positions ps q all more.0) more.1

filter_positions : (test : Position → Bool) (ps : List Position) → AllByRecursion IsPosition ps → AllByRecursion IsPosition (filter test ps)
filter_positions test [] all = tt
filter_positions test (p ∷ ps) all = by (test p) (filter_positions test ps all.1)
  where
    by : (b : Bool) → AllByRecursion IsPosition (filter test ps) → AllByRecursion IsPosition (cond b (p ∷ filter test ps) (filter test ps))
    by true ih = (all.0, ih)
    by false ih = ih

pub changed_positions : (old new : Part) → IsPart old → IsPart new → AllByRecursion IsPosition (changed_cells old new)
unfolding changed_cells
changed_positions old new before after =
    filter_positions (differs old new) (fold (insert_key position_cmp) (keys_of old) (keys_of new)) (fold_positions (keys_of old) (keys_of new) (keys_positions old before.entries) (keys_positions new after.entries))

-- each part of a book keeps to its rules
pub part_kept : (parts : Parts) (n : ℕ) → AllByRecursion IsPart parts → IsPart (part_at parts n)
part_kept [] n all = none_is_part [] refl
part_kept (part ∷ parts) zero all = all.0
part_kept (part ∷ parts) (suc n) all = part_kept parts n all.1

-- what a book tells of an edit are cells of the part
pub told_positions : (old new : Parts) (n : ℕ) (changed : Changed) (positions : List Position) → IsBook old → IsBook new → changed ≡ changed_in old new n → positions ≡ changed.positions → AllByRecursion IsPosition positions
unfolding changed_in
told_positions old new n changed positions before after told is =
    subst (AllByRecursion IsPosition) (sym (is ∙ ap (λ (c : Changed). c.positions) told))
    (changed_positions (part_at old n) (part_at new n) (part_kept old n before.each) (part_kept new n after.each))

-- cells of a part are in reach
pub in_reach : (ps : List Position) → AllByRecursion IsPosition ps → AllByRecursion IsInReach ps
in_reach [] all = tt
in_reach (p ∷ ps) all = ((omega (arith, all.0.0), omega (arith, all.0.1)), in_reach ps all.1)

-- and make the damage
pub told_damage : (old new : Parts) (n : ℕ) (changed : Changed) (positions : List Position) → changed ≡ changed_in old new n → positions ≡ changed.positions → damage_of changed.part positions ≡ damage_between old new n
unfolding changed_in
told_damage old new n changed positions told is =
    ap (damage_of changed.part) is ∙ ap (λ (c : Changed). damage_of c.part c.positions) told

none_pass : (test : Position → Bool) (ps : List Position) → ((p : Position) → test p ≡ false) → filter test ps ≡ []
none_pass test [] h = refl
none_pass test (p ∷ ps) h = ap (λ (b : Bool). cond b (p ∷ filter test ps) (filter test ps)) (h p) ∙ none_pass test ps h

same_shown : (part : Part) (p : Position) → differs part part p ≡ false
same_shown part p = ap not (nat_list_eq_equiv.refl (shown_at part p))

-- nothing changed where the part is as it was
pub unchanged : (part : Part) → changed_cells part part ≡ []
unfolding changed_cells
unchanged part = none_pass (differs part part) (fold (insert_key position_cmp) (keys_of part) (keys_of part)) (same_shown part)

-- and nothing is damaged there
pub undamaged : (part : Part) (n : ℕ) → damage_of n (changed_cells part part) ≡ []
undamaged part n = ap (damage_of n) (unchanged part) ∙ none_damaged n
