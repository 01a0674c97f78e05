-- Positions that compare alike are one, and what a list of entries has at a position after a change.
use Rattle.std.proofs.Common.{◌≡◌, ◌≢◌, ℕ, Bool, true, false, ◌&&◌, eqb, cond, List, [], ◌∷◌, Option, Some, None, refl, ap, sym, ◌∙◌}
use Rattle.std.specs.Ordering.{nat_cmp, is_eq, eq_by_cmp, match_ordering}
use Rattle.std.specs.declared.cmp.Ordering.{Ordering}
use Rattle.std.specs.declared.cmp.Ordering.TheVariants.{Less, Equal, Greater}
use Rattle.std.specs.Cmp.{IsTotalOrder, IsEquivalence, eq_by_cmp_equiv}
use Rattle.std.specs.BTreeMap.{is_at, insert_entry}
use Rattle.std.specs.List.Sorted.{IsStrictlySortedBy}
use Rattle.std.specs.Map.{lookup, remove_entry, keys_of}
use Rattle.std.proofs.lemmas.Cmp.{then_total, on_total, nat_cmp_total}
use Rattle.std.proofs.lemmas.Map.{lookup-remove_entry}
use Rattle.std.proofs.lemmas.Map.Keys.{IsDistinct-from_sorted}
use Rattle.std.proofs.lemmas.Map.Lookups.{CmpEqualImpliesEq, exact_pairs, exact_unsigned}
use Rattle.std.proofs.lemmas.Bool.{both_ways, false_from_ne_true, and_parts, and_from, eqb-true, eq-eqb}
use Rattle.formula_base.specs.Ranges.{Position, position_cmp}

pub exact_positions : CmpEqualImpliesEq position_cmp
exact_positions = exact_pairs nat_cmp nat_cmp exact_unsigned exact_unsigned

pub positions_total : IsTotalOrder position_cmp
positions_total = then_total (on_total (λ (p : Position). p.0) nat_cmp_total) (on_total (λ (p : Position). p.1) nat_cmp_total)

pub same_positions : IsEquivalence (eq_by_cmp position_cmp)
same_positions = eq_by_cmp_equiv positions_total

is_equal : (o : Ordering) → is_eq o ≡ true → o ≡ Equal
is_equal Less h = cc
is_equal Equal h = refl
is_equal Greater h = cc

-- a position is at itself
pub at_itself : (p : Position) → is_at (position_cmp p) p ≡ true
at_itself p = same_positions.refl p

-- and at no other
pub at_one : (p q : Position) → is_at (position_cmp p) q ≡ true → p ≡ q
at_one p q h = exact_positions p q (is_equal (position_cmp p q) h)

pub at_other : (p q : Position) → p ≢ q → is_at (position_cmp p) q ≡ false
at_other p q differs = false_from_ne_true (is_at (position_cmp p) q) (λ h. differs (at_one p q h))

-- two positions whose parts are equal numbers are one
pub position_from_parts : (p q : Position) → true ≡ (eqb p.0 q.0 && eqb p.1 q.1) → p ≡ q
position_from_parts p q h =
    let parts = and_parts (eqb p.0 q.0) (eqb p.1 q.1) (sym h) in
    ap (λ (a : ℕ). (a, p.1)) (eqb-true p.0 q.0 parts.0) ∙ ap (λ (b : ℕ). (q.0, b)) (eqb-true p.1 q.1 parts.1)

pub parts_differ : (p q : Position) → false ≡ (eqb p.0 q.0 && eqb p.1 q.1) → p ≢ q
parts_differ p q h same =
    both_ways (eqb p.0 q.0 && eqb p.1 q.1) (sym h)
    (and_from (eqb p.0 q.0) (eqb p.1 q.1) (eq-eqb p.0 q.0 (ap (λ (r : Position). r.0) same)) (eq-eqb p.1 q.1 (ap (λ (r : Position). r.1) same)))

-- positions are one exactly where their parts are
pub at_parts : (p q : Position) → (eqb p.0 q.0 && eqb p.1 q.1) ≡ is_at (position_cmp p) q
at_parts p q = by (eqb p.0 q.0 && eqb p.1 q.1) refl
  where
    by : (b : Bool) → b ≡ (eqb p.0 q.0 && eqb p.1 q.1) → b ≡ is_at (position_cmp p) q
    by true h = sym (ap (is_at (position_cmp p)) (sym (position_from_parts p q h)) ∙ at_itself p)
    by false h = sym (at_other p q (parts_differ p q h))

-- one position is at another exactly where that is at it
pub at_flip : (p q : Position) → is_at (position_cmp p) q ≡ is_at (position_cmp q) p
at_flip p q = by (is_at (position_cmp p) q) refl
  where
    by : (b : Bool) → is_at (position_cmp p) q ≡ b → b ≡ is_at (position_cmp q) p
    by true h = sym (ap (is_at (position_cmp q)) (at_one p q h) ∙ at_itself q)
    by false h = sym (at_other q p (λ same. both_ways (is_at (position_cmp p) q) h (ap (is_at (position_cmp p)) same ∙ at_itself p)))

-- what an insert leaves at a position
pub lookup_insert : {X : Type 0} (es : List (Position × X)) (k : Position) (v : X) (q : Position) → lookup (is_at (position_cmp q)) (insert_entry position_cmp es k v) ≡ cond (is_at (position_cmp q) k) (Some v) (lookup (is_at (position_cmp q)) es)
lookup_insert [] k v q = refl
lookup_insert {X} (e ∷ es) k v q = by (position_cmp k e.0) refl (lookup_insert es k v q)
  where
    rest : Option X
    rest = lookup (is_at (position_cmp q)) es

    swapped : (b c : Bool) → (b ≡ true → c ≡ true → ⊥) → cond b (Some e.1) (cond c (Some v) rest) ≡ cond c (Some v) (cond b (Some e.1) rest)
    swapped true true apart = absurd (apart refl refl)
    swapped true false apart = refl
    swapped false true apart = refl
    swapped false false apart = refl

    apart : k ≡ e.0 → position_cmp k e.0 ≡ Greater → ⊥
    apart same h = both_ways (is_at (position_cmp k) e.0) (ap is_eq h) (ap (is_at (position_cmp k)) (sym same) ∙ at_itself k)

    over : (b c : Bool) → b ≡ c → cond b (Some v) rest ≡ cond c (Some v) (cond b (Some e.1) rest)
    over true true same = refl
    over true false same = cc
    over false true same = cc
    over false false same = refl

    by : (o : Ordering) → position_cmp k e.0 ≡ o → lookup (is_at (position_cmp q)) (insert_entry position_cmp es k v) ≡ cond (is_at (position_cmp q) k) (Some v) rest → lookup (is_at (position_cmp q)) (match_ordering o ((k, v) ∷ e ∷ es) ((e.0, v) ∷ es) (e ∷ insert_entry position_cmp es k v)) ≡ cond (is_at (position_cmp q) k) (Some v) (cond (is_at (position_cmp q) e.0) (Some e.1) rest)
    by Less h ih = refl
    by Equal h ih = over (is_at (position_cmp q) e.0) (is_at (position_cmp q) k) (ap (is_at (position_cmp q)) (sym (exact_positions k e.0 h)))
    by Greater h ih =
        ap (cond (is_at (position_cmp q) e.0) (Some e.1)) ih
        ∙ swapped (is_at (position_cmp q) e.0) (is_at (position_cmp q) k)
        (λ b c. apart (sym (at_one q k c) ∙ at_one q e.0 b) h)

-- what a removal leaves at a position
pub lookup_remove : {X : Type 0} (es : List (Position × X)) (k q : Position) → IsStrictlySortedBy position_cmp (keys_of es) → lookup (is_at (position_cmp q)) (remove_entry (is_at (position_cmp k)) es) ≡ cond (is_at (position_cmp k) q) None (lookup (is_at (position_cmp q)) es)
lookup_remove es k q sorted =
    lookup-remove_entry same_positions (is_at (position_cmp k)) (λ x y a. ap (λ (p : Position). is_at (position_cmp p) y) (at_one k x a)) q es (IsDistinct-from_sorted position_cmp (keys_of es) sorted)
