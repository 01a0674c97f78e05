-- Where a key stands in a list of slots.
use Rattle.std.proofs.Common.{ℕ, zero, suc, ◌<◌, ◌≤◌, List, [], ◌∷◌, length, take, drop, get_or, Result, Ok, Err, IfOk, IfErr, arith}
use Rattle.std.specs.List.{AllByRecursion}
use Rattle.std.specs.List.Sorted.{IsSearchInRange, IsBinarySearchResult, IsNonDecreasingBy}
use Rattle.std.specs.Ordering.{ordering_index}
use Rattle.tile_key.specs.Places.{Place, key_order}
use Rattle.tile_key.specs.Visible.{IsBefore}
use Rattle.document_machine.specs.Keys.{Pairwise}
use Rattle.view_session.specs.Moves.{IsAt, IsGap}
use Rattle.view_session.specs.declared.slots.Slot.{Slot}
use Rattle.view_session.proofs.OrderFacts.{equal_is, rises, forth}

-- the slot's key comes before the other's
abbrev pub Comes : Slot → Slot → Type 0
Comes a b = IsBefore a.key b.key

-- what holds of all holds of the one at an index
pub all_get : {X : Type 0} (P : X → Type 0) (xs : List X) (i : ℕ) (d : X) → AllByRecursion P xs → i < length xs → P (get_or xs i d)
all_get P [] i d a h = absurd (omega arith)
all_get P (x ∷ xs) zero d a h = a.0
all_get P (x ∷ xs) (suc i) d a h = all_get P xs i d a.1 (omega arith)

climbs : (slots : List Slot) (key : Place) → Pairwise Comes slots → IsNonDecreasingBy (λ slot. ordering_index (key_order slot.key key)) slots
climbs [] key p i j d le h = absurd (omega arith)
climbs (slot ∷ slots) key p zero zero d le h = omega arith
climbs (slot ∷ slots) key p zero (suc j) d le h =
    let comes : IsBefore slot.key (get_or slots j d).key = all_get (Comes slot) slots j d p.0 (omega arith) in
    rises slot.key (get_or slots j d).key key comes
climbs (slot ∷ slots) key p (suc i) zero d le h = absurd (omega arith)
climbs (slot ∷ slots) key p (suc i) (suc j) d le h = climbs slots key p.1 i j d (omega arith) (omega arith)

all_take : {X : Type 0} (P : X → Type 0) (xs : List X) (i : ℕ) → i ≤ length xs → ((k : ℕ) (d : X) → k < i → P (get_or xs k d)) → AllByRecursion P (take i xs)
all_take P xs zero le f = tt
all_take P [] (suc i) le f = absurd (omega arith)
all_take P (x ∷ xs) (suc i) le f = (f 0 x (omega arith), all_take P xs i (omega arith) (λ k d h. f (suc k) d (omega arith)))

all_drop : {X : Type 0} (P : X → Type 0) (xs : List X) (i : ℕ) → ((k : ℕ) (d : X) → i ≤ k → k < length xs → P (get_or xs k d)) → AllByRecursion P (drop i xs)
all_drop P [] zero f = tt
all_drop P [] (suc i) f = tt
all_drop P (x ∷ xs) zero f = (f 0 x (omega arith) (omega arith), all_drop P xs zero (λ k d le h. f (suc k) d (omega arith) (omega arith)))
all_drop P (x ∷ xs) (suc i) f = all_drop P xs i (λ k d le h. f (suc k) d (omega arith) (omega arith))

-- a binary search ends at the key's slot, or where it would go
pub searched : (slots : List Slot) (key : Place) → Pairwise Comes slots → (r : Result ℕ ℕ) → IsSearchInRange r (length slots) → IsBinarySearchResult (λ slot. key_order slot.key key) slots r → record { found : IfOk r (IsAt slots key); absent : IfErr r (IsGap slots key) }
searched slots key p (Ok i) within equal = record {
  found = record { within = within; here = λ slot. equal_is (get_or slots i slot).key key (equal slot) };
  absent = tt;
}
searched slots key p (Err i) within parted =
    let parts = parted (climbs slots key p) in
    record {
      found = tt;
      absent = record {
        within = within;
        before = all_take (λ slot. IsBefore slot.key key) slots i within (λ k d h. parts.0 k d (omega arith) h);
        after = all_drop (λ slot. IsBefore key slot.key) slots i (λ k d le h. forth (get_or slots k d).key key (parts.1 k d le h));
      };
    }
