-- The ids of the open documents rise, whatever the book; so a document is found where it stands.
use Rattle.std.proofs.Common.{◌≡◌, ℕ, zero, suc, ◌+◌, ◌<◌, ◌≤◌, true, false, not, None, Some, List}
use Rattle.std.proofs.Common.{[], ◌∷◌, ◌++◌, length, set, eqb, ltb, refl, sym, subst, arith}
use Rattle.std.specs.Prelude.{Option}
use Rattle.std.specs.List.{prefix_len, remove}
use Rattle.hall_machine.specs.declared.words.HallAct.{HallAct}
use Rattle.hall_machine.specs.declared.words.HallAct.TheVariants.{Enter, Post, Collect, Depart}
use Rattle.hall_machine.specs.declared.words.HallAct.TheVariants.{Arrive, Close}
use Rattle.hall_machine.specs.declared.words.Entry.{Entry}
use Rattle.hall_machine.specs.Machine.{Desk, Stage, empty, desk_at, place_of}
use Rattle.hall_machine.specs.Ids.{AreRising, Rises}
use Rattle.hall_machine.specs.Entries.{desk_after, after_at, after_act, after, run, stage_of}

rising_lower : (low low' : ℕ) (xs : List Desk) (high : ℕ) → low' ≤ low → AreRising low xs high
    → AreRising low' xs high
rising_lower low low' [] high le h = omega (arith, le, h)
rising_lower low low' (x ∷ xs) high le h = (omega (arith, le, h.0), h.1)

rising_push : (low : ℕ) (xs : List Desk) (high : ℕ) (x : Desk) → x.doc ≡ high
    → AreRising low xs high → AreRising low (xs ++ x ∷ []) (high + 1)
rising_push low [] high x e h = (omega (arith, e, h), omega (arith, e))
rising_push low (y ∷ ys) high x e h = (h.0, rising_push (y.doc + 1) ys high x e h.1)

rising_set : (low : ℕ) (xs : List Desk) (i : ℕ) (y : Desk) (high : ℕ) → y.doc ≡ (desk_at xs i).doc
    → AreRising low xs high → AreRising low (set xs i y) high
rising_set low [] zero y high e h = h
rising_set low [] (suc i) y high e h = h
rising_set low (x ∷ xs) zero y high e h =
    (omega (arith, e, h.0), subst (λ (d : ℕ). AreRising (d + 1) xs high) (sym e) h.1)
rising_set low (x ∷ xs) (suc i) y high e h = (h.0, rising_set (x.doc + 1) xs i y high e h.1)

rising_remove : (low : ℕ) (xs : List Desk) (i high : ℕ) → AreRising low xs high
    → AreRising low (remove xs i) high
rising_remove low [] zero high h = h
rising_remove low [] (suc i) high h = h
rising_remove low (x ∷ xs) zero high h = rising_lower (x.doc + 1) low xs high
    (omega (arith, h.0)) h.1
rising_remove low (x ∷ xs) (suc i) high h = (h.0, rising_remove (x.doc + 1) xs i high h.1)

rising_at : (who : ℕ) (act : HallAct) (place : Option ℕ) (s : Stage) → Rises s
    → Rises (after_at who act place s)
rising_at who act None s h = h
rising_at who (Enter file) (Some i) s h = h
rising_at who (Post label urgent) (Some i) s h = rising_set 0 s.desks i
    (desk_after who (Post label urgent) (desk_at s.desks i)) s.next refl h
rising_at who (Collect n) (Some i) s h = rising_set 0 s.desks i
    (desk_after who (Collect n) (desk_at s.desks i)) s.next refl h
rising_at who (Depart to) (Some i) s h = rising_set 0 s.desks i
    (desk_after who (Depart to) (desk_at s.desks i)) s.next refl h
rising_at who Arrive (Some i) s h = rising_set 0 s.desks i
    (desk_after who Arrive (desk_at s.desks i)) s.next refl h
rising_at who Close (Some i) s h = rising_remove 0 s.desks i s.next h

-- one entry leaves the ids rising
pub rising_after : (who doc : ℕ) (act : HallAct) (s : Stage) → Rises s
    → Rises (after_act who doc act s)
rising_after who doc (Enter file) s h = rising_push 0 s.desks s.next _ refl h
rising_after who doc (Post label urgent) s h = rising_at who (Post label urgent)
    (place_of doc s.desks) s h
rising_after who doc (Collect n) s h = rising_at who (Collect n) (place_of doc s.desks) s h
rising_after who doc (Depart to) s h = rising_at who (Depart to) (place_of doc s.desks) s h
rising_after who doc Arrive s h = rising_at who Arrive (place_of doc s.desks) s h
rising_after who doc Close s h = rising_at who Close (place_of doc s.desks) s h

rising_run : (s : Stage) (es : List Entry) → Rises s → Rises (run s es)
rising_run s [] h = h
rising_run s (e ∷ es) h = rising_run (after e s) es (rising_after e.who e.doc e.act s h)

-- the ids rise in each state that a book reaches
pub rises : (book : List Entry) → Rises (stage_of book)
rises book = rising_run empty book (omega arith)

pub rising_above : (low : ℕ) (xs : List Desk) (high i : ℕ) → i < length xs → AreRising low xs high
    → (low ≤ (desk_at xs i).doc) × ((desk_at xs i).doc < high)
rising_above low [] high i lt h = absurd (omega (arith, lt))
rising_above low (x ∷ []) high zero lt h = (h.0, omega (arith, h.1))
rising_above low (x ∷ y ∷ ys) high zero lt h = let r = rising_above (x.doc + 1) (y ∷ ys) high 0
    (omega arith) h.1 in (h.0, omega (arith, r.0, r.1))
rising_above low (x ∷ xs) high (suc i) lt h = let r = rising_above (x.doc + 1) xs high i
    (omega (arith, lt)) h.1 in (omega (arith, r.0, h.0), r.1)

same_eqb : (n : ℕ) → eqb n n ≡ true
same_eqb n = grind arith

apart_eqb : (m n : ℕ) → m < n → eqb m n ≡ false
apart_eqb m n h = grind arith

first_is : (low : ℕ) (xs : List Desk) (high i : ℕ) → i < length xs → AreRising low xs high
    → prefix_len (λ (y : Desk). not (eqb y.doc (desk_at xs i).doc)) xs ≡ i
first_is low [] high i lt h = absurd (omega (arith, lt))
first_is low (x ∷ xs) high zero lt h = rw (same_eqb x.doc) refl
first_is low (x ∷ xs) high (suc i) lt h =
    let within : i < length xs = omega (arith, lt) in
    let above = rising_above (x.doc + 1) xs high i within h.1 in
    rw (
      apart_eqb x.doc (desk_at xs i).doc (omega (arith, above.0)),
      first_is
          (x.doc + 1) xs high i within h.1,
    ) (omega arith)

-- a document is found where it stands
pub found_there : (low : ℕ) (xs : List Desk) (high i : ℕ) → i < length xs → AreRising low xs high
    → place_of (desk_at xs i).doc xs ≡ Some i
found_there low xs high i lt h =
    let within : ltb i (length xs) ≡ true = grind arith in
    rw (first_is low xs high i lt h, within) refl
