-- Lists of cells in order.
use Rattle.std.proofs.Common.{◌≡◌, ℕ, ◌+◌, ◌<◌, Bool, true, false, ◌||◌, ◌&&◌, List, [], ◌∷◌, ◌++◌, length, take, get_or, refl, ap, sym, ◌∙◌}
use Rattle.std.specs.Prelude.{fold}
use Rattle.std.specs.BTreeMap.{is_at}
use Rattle.std.specs.BTreeSet.{insert_key}
use Rattle.std.specs.List.{filter, AllByRecursion}
use Rattle.std.specs.List.Sorted.{IsStrictlySortedBy}
use Rattle.std.specs.Ordering.{match_ordering, ordering_reverse}
use Rattle.std.specs.declared.cmp.Ordering.{Ordering}
use Rattle.std.specs.declared.cmp.Ordering.TheVariants.{Less, Equal, Greater}
use Rattle.std.proofs.lemmas.Map.Lookups.{btree_set_from_contains}
use Rattle.std.proofs.lemmas.Map.Views.{any-filter_same}
use Rattle.std.proofs.lemmas.List.{take_more}
use Rattle.std.proofs.lemmas.List.Folds.{list_any-append}
use Rattle.std.proofs.lemmas.List.Kept.{IsStrictlySortedBy-filter}
use Rattle.formula_base.specs.Ranges.{Position, position_cmp}
use Rattle.part_calc.specs.Finding.{is_listed}
use Rattle.part_calc.proofs.PositionLaws.{exact_positions, positions_total, at_one}

-- a cell is in a list with one more, put in order, exactly where it is that one or was in it
pub listed_insert : (positions : List Position) (k p : Position) → is_listed (insert_key position_cmp positions k) p ≡ (is_at (position_cmp p) k || is_listed positions p)
listed_insert [] k p = refl
listed_insert (x ∷ positions) k p = by (position_cmp k x) refl (listed_insert positions k p)
  where
    swapped : (a b c : Bool) → (a || (b || c)) ≡ (b || (a || c))
    swapped true true c = refl
    swapped true false c = refl
    swapped false true c = refl
    swapped false false c = refl

    twice : (a b c : Bool) → a ≡ b → (b || c) ≡ (a || (b || c))
    twice true true c e = refl
    twice false false c e = refl
    twice true false c e = cc
    twice false true c e = cc

    by : (o : Ordering) → position_cmp k x ≡ o → is_listed (insert_key position_cmp positions k) p ≡ (is_at (position_cmp p) k || is_listed positions p)
        → is_listed (match_ordering o (k ∷ x ∷ positions) (x ∷ positions) (x ∷ insert_key position_cmp positions k)) p ≡ (is_at (position_cmp p) k || (is_at (position_cmp p) x || is_listed positions p))
    by Less h ih = refl
    by Equal h ih = twice (is_at (position_cmp p) k) (is_at (position_cmp p) x) (is_listed positions p) (ap (is_at (position_cmp p)) (exact_positions k x h))
    by Greater h ih = ap (λ (b : Bool). is_at (position_cmp p) x || b) ih ∙ swapped (is_at (position_cmp p) x) (is_at (position_cmp p) k) (is_listed positions p)

-- one more of the cells that are put into a set
pub listed_step : (before after listed : List Position) (i : ℕ) (position : Position) → i < length listed → position ≡ get_or listed i position → ((p : Position) → is_listed before p ≡ is_listed (take i listed) p) → ((p : Position) → is_listed after p ≡ (is_at (position_cmp p) position || is_listed before p))
    → (p : Position) → is_listed after p ≡ is_listed (take (i + 1) listed) p
listed_step before after listed i position h is told more p =
    more p ∙ ap (λ (b : Bool). is_at (position_cmp p) position || b) (told p) ∙ last (is_at (position_cmp p) position) (is_listed (take i listed) p)
    ∙ sym (list_any-append (is_at (position_cmp p)) (take i listed) (position ∷ []))
    ∙ ap (λ (q : Position). is_listed (take i listed ++ q ∷ []) p) is
    ∙ ap (λ (ps : List Position). is_listed ps p) (sym (take_more listed i position h))
  where
    last : (a b : Bool) → (a || b) ≡ (b || (a || false))
    last true true = refl
    last true false = refl
    last false true = refl
    last false false = refl

-- lists in order with the same cells are one
pub same_lists : (xs ys : List Position) → IsStrictlySortedBy position_cmp xs → IsStrictlySortedBy position_cmp ys → ((p : Position) → is_listed xs p ≡ is_listed ys p) → xs ≡ ys
same_lists xs ys s t same = btree_set_from_contains positions_total (record { keys = xs }) (record { keys = ys }) s t same exact_positions

-- what passes a test is listed in a filter where it was listed
pub listed_filter : (test : Position → Bool) (positions : List Position) (p : Position) → is_listed (filter test positions) p ≡ (test p && is_listed positions p)
listed_filter test positions p = any-filter_same (is_at (position_cmp p)) test (test p) (λ k at. ap test (sym (at_one p k at))) positions

-- filters of lists in order are one where what passes is in both
pub same_filters : (test : Position → Bool) (xs ys : List Position) → IsStrictlySortedBy position_cmp xs → IsStrictlySortedBy position_cmp ys → ((p : Position) → test p ≡ true → is_listed xs p ≡ is_listed ys p) → filter test xs ≡ filter test ys
same_filters test xs ys s t same =
    same_lists (filter test xs) (filter test ys) (IsStrictlySortedBy-filter position_cmp test xs s) (IsStrictlySortedBy-filter position_cmp test ys t)
    (λ p. listed_filter test xs p ∙ both (test p) (is_listed xs p) (is_listed ys p) (same p) ∙ sym (listed_filter test ys p))
  where
    both : (a b c : Bool) → (a ≡ true → b ≡ c) → (a && b) ≡ (a && c)
    both true b c h = h refl
    both false b c h = refl

above_insert : (x : Position) (positions : List Position) (k : Position) → AllByRecursion (λ y. position_cmp x y ≡ Less) positions → position_cmp x k ≡ Less → AllByRecursion (λ y. position_cmp x y ≡ Less) (insert_key position_cmp positions k)
above_insert x [] k all h = (h, tt)
above_insert x (y ∷ positions) k all h = by (position_cmp k y) (above_insert x positions k all.1 h)
  where
    by : (o : Ordering) → AllByRecursion (λ z. position_cmp x z ≡ Less) (insert_key position_cmp positions k) → AllByRecursion (λ z. position_cmp x z ≡ Less) (match_ordering o (k ∷ y ∷ positions) (y ∷ positions) (y ∷ insert_key position_cmp positions k))
    by Less ih = (h, all)
    by Equal ih = all
    by Greater ih = (all.0, ih)

pub above_more : (k x : Position) (positions : List Position) → position_cmp k x ≡ Less → AllByRecursion (λ y. position_cmp x y ≡ Less) positions → AllByRecursion (λ y. position_cmp k y ≡ Less) positions
above_more k x [] h all = tt
above_more k x (y ∷ positions) h all = (positions_total.trans k x y h all.0, above_more k x positions h all.1)

-- what is put in order stays in order
pub sorted_insert : (positions : List Position) (k : Position) → IsStrictlySortedBy position_cmp positions → IsStrictlySortedBy position_cmp (insert_key position_cmp positions k)
unfolding IsStrictlySortedBy
sorted_insert [] k s = (tt, tt)
sorted_insert (x ∷ positions) k s = by (position_cmp k x) refl (sorted_insert positions k s.1)
  where
    flipped : (o : Ordering) → position_cmp k x ≡ o → o ≡ Greater → position_cmp x k ≡ Less
    flipped o h e = positions_total.antisymm x k ∙ ap ordering_reverse (h ∙ e)

    by : (o : Ordering) → position_cmp k x ≡ o → IsStrictlySortedBy position_cmp (insert_key position_cmp positions k) → IsStrictlySortedBy position_cmp (match_ordering o (k ∷ x ∷ positions) (x ∷ positions) (x ∷ insert_key position_cmp positions k))
    by Less h ih = ((h, above_more k x positions h s.0), s)
    by Equal h ih = s
    by Greater h ih = (above_insert x positions k s.0 (flipped Greater h refl), ih)

pub sorted_fold : (positions more : List Position) → IsStrictlySortedBy position_cmp positions → IsStrictlySortedBy position_cmp (fold (insert_key position_cmp) positions more)
sorted_fold positions [] s = s
sorted_fold positions (x ∷ more) s = sorted_fold (insert_key position_cmp positions x) more (sorted_insert positions x s)

pub listed_fold : (positions more : List Position) (p : Position) → is_listed (fold (insert_key position_cmp) positions more) p ≡ (is_listed positions p || is_listed more p)
listed_fold positions [] p = none (is_listed positions p)
  where
    none : (b : Bool) → b ≡ (b || false)
    none true = refl
    none false = refl
listed_fold positions (x ∷ more) p =
    listed_fold (insert_key position_cmp positions x) more p
    ∙ ap (λ (b : Bool). b || is_listed more p) (listed_insert positions x p)
    ∙ moved (is_at (position_cmp p) x) (is_listed positions p) (is_listed more p)
  where
    moved : (a b c : Bool) → ((a || b) || c) ≡ (b || (a || c))
    moved true true c = refl
    moved true false c = refl
    moved false true c = refl
    moved false false c = refl
