-- Plans carried out by one call after another, with whether a turn did something by them.
use Rattle.std.proofs.Common.{◌≡◌, ℕ, Bool, true, false, ◌||◌, List, [], ◌∷◌, ◌++◌, Option, Some}
use Rattle.std.proofs.Common.{refl, ap, subst, sym, ◌∙◌}
use Rattle.std.specs.List.{list_any}
use Rattle.std.proofs.lemmas.List.Folds.{list_any-append}
use Rattle.net_traits.specs.Nets.{LinkEvent}
use Rattle.poll_machine.specs.Words.{Ways}
use Rattle.poll_machine.specs.Agenda.{HeldDocument}
use Rattle.poll_machine.specs.House.{House, Happens, HouseStep, Slot, Live, slot_of}
use Rattle.poll_machine.specs.Lobby.{for_live, live}
use Rattle.poll_machine.specs.Plans.{Plan, Rests, Makes, Then, Learns, Looks}
use Rattle.poll_machine.specs.Told.{Heard, Hears}
use Rattle.poll_machine.specs.Turn.{is_work, is_fault}
use Rattle.poll_machine.proofs.Carried.{hears_more, hears_none, carried_cut}
use Rattle.poll_machine.proofs.Runs.{runs, follows_is_run}
use Rattle.poll_documents.specs.Doing.{Does}

-- nothing was to be done
pub does_rests : {D J P L : Type 0} (w : Ways D J P) (carries : L → List LinkEvent)
    (old : House D J P L) (s : Heard D J P L) (fine : Type 0)
    → Does w carries Rests old s fine false old s
does_rests w carries old s fine = record {
  carried = record {
    events = [];
    last = old;
    run = refl;
    heard = hears_none w carries s;
    whole = λ f. (refl, refl);
  };
  works = λ f. refl;
  faults = λ f. refl;
}

or_false : (a b : Bool) → a ≡ b → (a || false) ≡ b
or_false true b is = is
or_false false b is = is

-- one event
pub does_makes : {D J P L : Type 0} (w : Ways D J P) (carries : L → List LinkEvent)
    (event : Happens D J P L) (old : House D J P L) (s : Heard D J P L) (fine : Type 0)
    (new : House D J P L) (t : Heard D J P L)
    → HouseStep w old event new → Hears w carries s (event ∷ []) t → is_fault event ≡ false
    → Does w carries (Makes event) old s fine (is_work event) new t
does_makes w carries event old s fine new t step heard well = record {
  carried = record {
    events = event ∷ [];
    last = new;
    run = (new, step, refl);
    heard = heard;
    whole = λ f. (refl, step);
  };
  works = λ f. or_false (is_work event) (is_work event) refl;
  faults = λ f. or_false (is_fault event) false well;
}

-- whether some event of both is one
pub any_more : {A : Type 0} (test : A → Bool) (xs ys : List A) (x y : Bool)
    → list_any test xs ≡ x → list_any test ys ≡ y → list_any test (xs ++ ys) ≡ (x || y)
any_more test xs ys x y one two =
    list_any-append test xs ys ∙ ap (λ (any : Bool). any || list_any test ys) one
    ∙ ap (λ (any : Bool). x || any) two

-- one plan that was carried out, and then another
pub does_then : {D J P L : Type 0} (w : Ways D J P) (carries : L → List LinkEvent)
    (first later : Plan (House D J P L) (Happens D J P L)) (old : House D J P L)
    (s : Heard D J P L) (one : Bool) (mid : House D J P L) (t : Heard D J P L) (fine : Type 0)
    (two : Bool) (new : House D J P L) (u : Heard D J P L)
    → Does w carries first old s (Unit {0}) one mid t → Does w carries later mid t fine two new u
    → Does w carries (Then first later) old s fine (one || two) new u
does_then w carries first later old s one mid t fine two new u a b = record {
  carried = record {
    events = a.carried.events ++ b.carried.events;
    last = b.carried.last;
    run = runs (HouseStep w) old a.carried.events b.carried.events mid b.carried.last
        (follows_is_run (HouseStep w) first old a.carried.events mid (a.carried.whole tt))
        b.carried.run;
    heard = hears_more w carries s a.carried.events b.carried.events t u a.carried.heard
        b.carried.heard;
    whole = λ f. (
      mid,
      a.carried.events,
      b.carried.events,
      refl,
      a.carried.whole tt,
      b.carried.whole f,
    );
  };
  works = λ f. any_more is_work a.carried.events b.carried.events one two (a.works tt) (b.works f);
  faults = λ f. any_more is_fault a.carried.events b.carried.events false false (a.faults tt)
      (b.faults f);
}

-- an answer came
pub does_learns : {D J P L A : Type 0} (w : Ways D J P) (carries : L → List LinkEvent)
    (next : A → Plan (House D J P L) (Happens D J P L)) (answer : A) (old : House D J P L)
    (s : Heard D J P L) (fine : Type 0) (worked : Bool) (new : House D J P L) (t : Heard D J P L)
    → Does w carries (next answer) old s fine worked new t
    → Does w carries (Learns next) old s fine worked new t
does_learns w carries next answer old s fine worked new t a = record {
  carried = record {
    events = a.carried.events;
    last = a.carried.last;
    run = a.carried.run;
    heard = a.carried.heard;
    whole = λ f. (answer, a.carried.whole f);
  };
  works = a.works;
  faults = a.faults;
}

-- the house was looked at
pub does_looks : {D J P L : Type 0} (w : Ways D J P) (carries : L → List LinkEvent)
    (next : House D J P L → Plan (House D J P L) (Happens D J P L)) (old : House D J P L)
    (s : Heard D J P L) (fine : Type 0) (worked : Bool) (new : House D J P L) (t : Heard D J P L)
    → Does w carries (next old) old s fine worked new t
    → Does w carries (Looks next) old s fine worked new t
does_looks w carries next old s fine worked new t a = record {
  carried = record {
    events = a.carried.events;
    last = a.carried.last;
    run = a.carried.run;
    heard = a.carried.heard;
    whole = a.carried.whole;
  };
  works = a.works;
  faults = a.faults;
}

-- a call that was fine carried out its plan
pub does_whole : {D J P L : Type 0} (w : Ways D J P) (carries : L → List LinkEvent)
    (plan : Plan (House D J P L) (Happens D J P L)) (old : House D J P L) (s : Heard D J P L)
    (fine : Type 0) (worked : Bool) (new : House D J P L) (t : Heard D J P L)
    → fine → Does w carries plan old s fine worked new t
    → Does w carries plan old s (Unit {0}) worked new t
does_whole w carries plan old s fine worked new t is a = record {
  carried = record {
    events = a.carried.events;
    last = a.carried.last;
    run = a.carried.run;
    heard = a.carried.heard;
    whole = λ f. a.carried.whole is;
  };
  works = λ f. a.works is;
  faults = λ f. a.faults is;
}

-- a call that was cut off is a part of any plan that was cut off with it
pub does_cut : {D J P L : Type 0} (w : Ways D J P) (carries : L → List LinkEvent)
    (plan other : Plan (House D J P L) (Happens D J P L)) (old : House D J P L)
    (s : Heard D J P L) (fine cut : Type 0) (worked told : Bool) (new end : House D J P L)
    (t : Heard D J P L)
    → (cut → ⊥) → Does w carries plan old s fine worked new t
    → Does w carries other old s cut told end t
does_cut w carries plan other old s fine cut worked told new end t none a = record {
  carried = carried_cut w carries plan other old s fine cut new end t none a.carried;
  works = λ f. absurd (none f);
  faults = λ f. absurd (none f);
}

-- a plan that was carried out, and then a part of another
pub does_part : {D J P L : Type 0} (w : Ways D J P) (carries : L → List LinkEvent)
    (first later other : Plan (House D J P L) (Happens D J P L)) (old : House D J P L)
    (s : Heard D J P L) (one : Bool) (mid : House D J P L) (t : Heard D J P L) (fine cut : Type 0)
    (two told : Bool) (new end : House D J P L) (u : Heard D J P L)
    → (cut → ⊥) → Does w carries first old s (Unit {0}) one mid t
    → Does w carries later mid t fine two new u
    → Does w carries other old s cut told end u
does_part w carries first later other old s one mid t fine cut two told new end u none a b =
    does_cut w carries (Then first later) other old s fine cut (one || two) told new end u none
    (does_then w carries first later old s one mid t fine two new u a b)

-- what is done for a held document
pub does_live : {D J P L : Type 0} (w : Ways D J P) (carries : L → List LinkEvent) (id : ℕ)
    (plan : HeldDocument D J P L → Plan (House D J P L) (Happens D J P L))
    (held : HeldDocument D J P L) (old : House D J P L) (s : Heard D J P L) (fine : Type 0)
    (worked : Bool) (new : House D J P L) (t : Heard D J P L)
    → slot_of id old.docs ≡ Some (Live held)
    → Does w carries (plan held) old s fine worked new t
    → Does w carries (for_live id plan) old s fine worked new t
does_live {D} {J} {P} {L} w carries id plan held old s fine worked new t is a =
    does_looks w carries (λ h. live plan (slot_of id h.docs)) old s fine worked new t
    (subst
    (λ (slot : Option (Slot D J P L)). Does w carries (live plan slot) old s fine worked new t)
    (sym is) a)
