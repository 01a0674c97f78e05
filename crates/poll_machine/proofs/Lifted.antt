-- What happens to one held document happens in its house, and changes no other document.
use Rattle.std.proofs.Common.{◌≡◌, ◌≢◌, ℕ, ◌+◌, ◌<◌, Bool, true, false, cond, List, [], ◌∷◌, ◌++◌}
use Rattle.std.proofs.Common.{map, Option, None, Some, nat_eq, refl, ap, subst, sym, ◌∙◌, arith}
use Rattle.std.proofs.Common.{add_assoc}
use Rattle.poll_machine.specs.Words.{Ways}
use Rattle.poll_machine.specs.Agenda.{HeldDocument, Here, HeldStep}
use Rattle.poll_machine.specs.House.{Slot, Live, Refused, SlotAct, At, Happens, OfDoc, House}
use Rattle.poll_machine.specs.House.{HouseStep, DocStep, SlotStep, slot_of, Rises, lobby_after}
use Rattle.poll_machine.specs.House.{may_join, ends_by, lost_by}
use Rattle.poll_machine.specs.Project.{HeldMove}
use Rattle.poll_machine.specs.Runs.{Run}

-- what stands behind the first
rises_on : {D J P L : Type 0} (p : ℕ × Slot D J P L) (docs : List (ℕ × Slot D J P L))
    → Rises (p ∷ docs) → Rises docs
rises_on p [] rises = tt
rises_on p (q ∷ docs) rises = rises.1

-- the first id is below those behind it
below : {D J P L : Type 0} (q : ℕ × Slot D J P L) (front : List (ℕ × Slot D J P L)) (id : ℕ)
    (slot : Slot D J P L) (back : List (ℕ × Slot D J P L))
    → Rises (q ∷ (front ++ (id, slot) ∷ back)) → q.0 < id
below q [] id slot back rises = rises.0
below q (r ∷ front) id slot back rises =
    let first : q.0 < r.0 = rises.0 in
    let later : r.0 < id = below r front id slot back rises.1 in
    omega (arith, first, later)

same_id : (id : ℕ) → nat_eq id id ≡ true
same_id id = grind arith

other_id : (a b : ℕ) → (a ≡ b → ⊥) → nat_eq a b ≡ false
other_id a b other = grind (arith, other)

-- where ids rise, what stands under an id is found
pub found : {D J P L : Type 0} (front : List (ℕ × Slot D J P L)) (id : ℕ) (slot : Slot D J P L)
    (back : List (ℕ × Slot D J P L))
    → Rises (front ++ (id, slot) ∷ back) → slot_of id (front ++ (id, slot) ∷ back) ≡ Some slot
found [] id slot back rises = rw (same_id id) refl
found (q ∷ front) id slot back rises =
    let less : q.0 < id = below q front id slot back rises in
    rw (other_id q.0 id (λ is. omega (arith, less, is)))
    (found front id slot back (rises_on q (front ++ (id, slot) ∷ back) rises))

-- what stands under another id stays
pub others_stay : {D J P L : Type 0} (front : List (ℕ × Slot D J P L)) (id : ℕ)
    (old new : Slot D J P L) (back : List (ℕ × Slot D J P L)) (x : ℕ)
    → x ≢ id
    → slot_of x (front ++ (id, new) ∷ back) ≡ slot_of x (front ++ (id, old) ∷ back)
others_stay [] id old new back x other =
    rw (other_id id x (λ is. other (sym is))) refl
others_stay (q ∷ front) id old new back x other =
    ap (λ rest. cond (nat_eq q.0 x) (Some q.1) rest)
    (others_stay front id old new back x other)

-- the ids still rise
pub still_rises : {D J P L : Type 0} (front : List (ℕ × Slot D J P L)) (id : ℕ)
    (old new : Slot D J P L) (back : List (ℕ × Slot D J P L))
    → Rises (front ++ (id, old) ∷ back) → Rises (front ++ (id, new) ∷ back)
still_rises [] id old new [] rises = tt
still_rises [] id old new (r ∷ back) rises = rises
still_rises (q ∷ []) id old new back rises =
    (rises.0, still_rises [] id old new back rises.1)
still_rises (q ∷ r ∷ front) id old new back rises =
    (rises.0, still_rises (r ∷ front) id old new back rises.1)

-- nothing is lost by what happens to a held document
none_lost : {D J P L : Type 0} (w : Ways D J P) (slot : Option (Slot D J P L)) (here : Here J P L)
    → lost_by w slot (At here) ≡ []
none_lost w None here = refl
none_lost w (Some (Live h)) here = refl
none_lost w (Some (Refused file refusal)) here = refl

nothing_more : {A : Type 0} (xs : List A) → xs ++ [] ≡ xs
nothing_more [] = refl
nothing_more (x ∷ xs) = ap (λ ys. x ∷ ys) (nothing_more xs)

-- the house once this happened to one of its documents
abbrev pub with_held : {D J P L : Type 0} → House D J P L → List (ℕ × Slot D J P L) → ℕ
    → HeldDocument D J P L → List (ℕ × Slot D J P L) → List ℕ → ℕ → House D J P L
with_held house front id held back lobby ended = record house {
  docs = front ++ (id, Live held) ∷ back;
  lobby = lobby;
  ended = ended;
}

-- one step
pub lifted : {D J P L : Type 0} (w : Ways D J P) (house : House D J P L)
    (front : List (ℕ × Slot D J P L)) (id : ℕ) (old new : HeldDocument D J P L)
    (back : List (ℕ × Slot D J P L)) (lobby : List ℕ) (ended : ℕ) (here : Here J P L)
    → Rises (front ++ (id, Live old) ∷ back)
    → HeldStep w house.moment old here new
    → may_join {D = D} (At here) lobby ≡ true
    → HouseStep w (with_held house front id old back lobby ended)
    (OfDoc id house.moment (At here))
    (with_held house front id new back (lobby_after {D = D} (At here) lobby)
    (ended + ends_by {D = D} (At here)))
lifted {D} {J} {P} {L} w house front id old new back lobby ended here rises step may = record {
  now = refl;
  one = (
    old,
    new,
    found front id (Live old) back rises,
    step,
    found front id (Live new) back (still_rises front id (Live old) (Live new) back rises),
  );
  others = λ x other. others_stay front id (Live old) (Live new) back x other;
  order = still_rises front id (Live old) (Live new) back rises;
  waits = may;
  rest = ap
      (λ lost. record house {
        docs = front ++ (id, Live new) ∷ back;
        lobby = lobby_after {D = D} (At here) lobby;
        ended = ended + ends_by {D = D} (At here);
        lost = lost;
      })
      (sym
      (ap (λ more. house.lost ++ more)
      (none_lost w (slot_of id (front ++ (id, Live old) ∷ back)) here)
      ∙ nothing_more house.lost));
}
