-- What happens to a document of a house, with all that is owed for it, carries out the house's
-- plan.
use Rattle.std.proofs.Common.{◌≡◌, ℕ, ◌+◌, ◌<◌, Bool, true, false, ◌||◌, List, [], ◌∷◌, ◌++◌, refl}
use Rattle.std.proofs.Common.{ap, subst, sym, ◌∙◌, length, take, drop, set, get_or}
use Rattle.std.proofs.Common.{take-append-drop, ◌==◌, arith}
use Rattle.std.proofs.lemmas.List.{append-nil, take-set, drop-set, set-get_or}
use Rattle.std.specs.List.{AllByRecursion, list_any}
use Rattle.net_traits.specs.Nets.{LinkEvent}
use Rattle.poll_machine.specs.Words.{Ways, Outs}
use Rattle.poll_machine.specs.Agenda.{HeldDocument, Todo, Here, HeldStep, todo_of}
use Rattle.poll_machine.specs.House.{Slot, Live, At, Happens, OfDoc, House, HouseStep, Rises}
use Rattle.poll_machine.specs.House.{ends_by}
use Rattle.poll_machine.specs.House.{lobby_after, may_join, slot_of, is_free}
use Rattle.poll_machine.specs.Lobby.{happens_to, here_now, is_at}
use Rattle.poll_machine.specs.Plans.{Plan, Makes}
use Rattle.poll_machine.specs.Project.{HeldMove}
use Rattle.poll_machine.specs.Runs.{Run}
use Rattle.poll_machine.specs.Told.{Heard, Hears}
use Rattle.poll_machine.specs.Turn.{is_work, is_fault, is_done_here}
use Rattle.poll_machine.proofs.Carried.{hears_more}
use Rattle.poll_machine.proofs.Lifted.{with_held, lifted, found, still_rises}
use Rattle.poll_documents.specs.Doing.{Does}
use Rattle.poll_documents.specs.Settling.{Passes, Stops, owing, timed, at_house}
use Rattle.poll_documents.proofs.Doing.{does_makes, does_looks}
use Rattle.poll_documents.proofs.Housing.{house_run}

-- a list with another item at an index
pub replaced : {A : Type 0} (xs : List A) (i : ℕ) (x : A) → i < length xs
    → set xs i x ≡ take i xs ++ x ∷ drop (i + 1) xs
replaced {A} xs i x within =
    sym (take-append-drop i (set xs i x))
    ∙ ap (λ (front : List A). front ++ drop i (set xs i x)) (take-set xs i x)
    ∙ ap (λ (back : List A). take i xs ++ back) (drop-set xs i x within)

-- a list with the item that stands at an index
pub placed : {A : Type 0} (xs : List A) (i : ℕ) (x : A) → i < length xs → x ≡ get_or xs i x
    → take i xs ++ x ∷ drop (i + 1) xs ≡ xs
placed {A} xs i x within is =
    sym (replaced xs i x within) ∙ ap (λ (y : A). set xs i y) is ∙ set-get_or xs i x

-- each of these events is of the document
all_at : (D : Type 0) {J P L : Type 0} (id moment : ℕ) (heres : List (Here J P L))
    → AllByRecursion (λ (event : Happens D J P L). is_at id event ≡ true) (at_house id moment heres)
all_at D id moment [] = tt
all_at D id moment (here ∷ heres) = (same id, all_at D id moment heres)
  where
    same : (n : ℕ) → (n == n) ≡ true
    same n = grind arith

-- what of these events a turn did is what was done so to the document
any_house : (D : Type 0) {J P L : Type 0} (id moment : ℕ) (heres : List (Here J P L))
    → list_any is_work (at_house {D = D} id moment heres)
    ≡ list_any (λ here. is_done_here here) heres
any_house D id moment [] = refl
any_house D id moment (here ∷ heres) =
    ap (λ (any : Bool). is_done_here here || any) (any_house D id moment heres)

-- none of them is a fault of the net
no_fault : (D : Type 0) {J P L : Type 0} (id moment : ℕ) (heres : List (Here J P L))
    → list_any is_fault (at_house {D = D} id moment heres) ≡ false
no_fault D id moment [] = refl
no_fault D id moment (here ∷ heres) = no_fault D id moment heres

or_none : (a b : Bool) → b ≡ false → (a || b) ≡ a
or_none true b none = refl
or_none false b none = none

-- this happens to the document at this moment
pub here_done : {D J P L : Type 0} (w : Ways D J P) (carries : L → List LinkEvent)
    (house : House D J P L) (front : List (ℕ × Slot D J P L)) (id : ℕ)
    (old new : HeldDocument D J P L) (back : List (ℕ × Slot D J P L)) (here : Here J P L)
    (before after : Heard D J P L) (fine : Type 0)
    → Rises (front ++ (id, Live old) ∷ back)
    → HeldStep w house.moment old here new
    → may_join {D = D} (At here) house.lobby ≡ true
    → Hears w carries before (OfDoc id house.moment (At here) ∷ []) after
    → Does w carries (here_now id here)
    (with_held house front id old back house.lobby house.ended) before fine (is_done_here here)
    (with_held house front id new back (lobby_after {D = D} (At here) house.lobby)
    (house.ended + ends_by {D = D} (At here))) after
here_done {D} {J} {P} {L} w carries house front id old new back here before after fine rises step
    may
    heard =
    let start : House D J P L = with_held house front id old back house.lobby house.ended in
    let end : House D J P L =
    with_held house front id new back (lobby_after {D = D} (At here) house.lobby)
    (house.ended + ends_by {D = D} (At here)) in
    does_looks w carries (λ h. Makes (OfDoc id h.moment (At here))) start before fine
    (is_done_here here) end after
    (does_makes w carries (OfDoc id house.moment (At here)) start before fine end after
    (lifted w house front id old new back house.lobby house.ended here rises step may) heard refl)

-- the run of the house: what happened, and what was done of what is owed for it
event_run : {D J P L : Type 0} (w : Ways D J P) (carries : L → List LinkEvent)
    (house : House D J P L) (front : List (ℕ × Slot D J P L)) (id : ℕ)
    (old mid last : HeldDocument D J P L) (back : List (ℕ × Slot D J P L)) (here : Here J P L)
    (outs : Outs J) (before : Heard D J P L) (n : ℕ) (left : List (Todo J P))
    (after : Heard D J P L)
    → Rises (front ++ (id, Live old) ∷ back)
    → HeldStep w house.moment old here (owing mid (todo_of outs))
    → may_join {D = D} (At here) house.lobby ≡ true
    → (p : Passes w carries id house.moment mid (todo_of outs) before n last left after)
    → Run (HouseStep w)
    (with_held house front id (owing mid (todo_of outs)) back
    (lobby_after {D = D} (At here) house.lobby) (house.ended + ends_by {D = D} (At here)))
    (at_house id house.moment p.heres)
    (with_held house front id (owing last left) back (lobby_after {D = D} (At here) house.lobby)
    (house.ended + ends_by {D = D} (At here) + n))
event_run {D} {J} {P} {L} w carries house front id old mid last back here outs before n left after
    rises step may p =
    let lobby : List ℕ = lobby_after {D = D} (At here) house.lobby in
    let ended : ℕ = house.ended + ends_by {D = D} (At here) in
    let moves : Run (HeldMove w) (owing mid (todo_of outs)) (timed house.moment p.heres)
    (owing last left) =
    subst
    (λ (todo : List (Todo J P)). Run (HeldMove w) (owing mid (todo_of outs))
    (timed house.moment p.heres) (owing last todo))
    (append-nil left)
    (subst
    (λ (todo : List (Todo J P)). Run (HeldMove w) (owing mid todo) (timed house.moment p.heres)
    (owing last (left ++ [])))
    (append-nil (todo_of outs)) (p.run []))
    in
    subst
    (λ (k : ℕ). Run (HouseStep w)
    (with_held house front id (owing mid (todo_of outs)) back lobby ended)
    (at_house id house.moment p.heres)
    (with_held house front id (owing last left) back lobby (ended + k)))
    p.counted
    (house_run w house front id (owing mid (todo_of outs))
    (owing last left) back lobby ended p.heres
    (still_rises front id (Live old) (Live (owing mid (todo_of outs))) back rises)
    (p.lobby lobby) moves)

-- this happens to the document, and all that is owed for it is done
pub happened : {D J P L : Type 0} (w : Ways D J P) (carries : L → List LinkEvent)
    (house : House D J P L) (front : List (ℕ × Slot D J P L)) (id : ℕ)
    (old mid new : HeldDocument D J P L) (back : List (ℕ × Slot D J P L))
    (what : Outs J → Here J P L) (outs : Outs J) (before : Heard D J P L) (n : ℕ)
    (after : Heard D J P L) (fine : Type 0)
    → Rises (front ++ (id, Live old) ∷ back)
    → HeldStep w house.moment old (what outs) (owing mid (todo_of outs))
    → may_join {D = D} (At (what outs)) house.lobby ≡ true
    → Hears w carries before (OfDoc id house.moment (At (what outs)) ∷ []) before
    → Passes w carries id house.moment mid (todo_of outs) before n new [] after
    → new.todo ≡ []
    → Does w carries (happens_to id what)
    (with_held house front id old back house.lobby house.ended) before fine
    (is_done_here (what outs))
    (with_held house front id new back (lobby_after {D = D} (At (what outs)) house.lobby)
    (house.ended + ends_by {D = D} (At (what outs)) + n)) after
happened {D} {J} {P} {L} w carries house front id old mid new back what outs before n after fine
    rises
    step may heard p settled =
    let lobby : List ℕ = lobby_after {D = D} (At (what outs)) house.lobby in
    let ended : ℕ = house.ended + ends_by {D = D} (At (what outs)) in
    let start : House D J P L = with_held house front id old back house.lobby house.ended in
    let between : House D J P L =
    with_held house front id (owing mid (todo_of outs)) back lobby ended in
    let end : House D J P L = with_held house front id new back lobby (ended + n) in
    let event : Happens D J P L = OfDoc id house.moment (At (what outs)) in
    let later : List (Happens D J P L) = at_house id house.moment p.heres in
    let first : HouseStep w start event between =
    lifted w house front id old (owing mid (todo_of outs)) back house.lobby house.ended (what outs)
    rises step may in
    let run : Run (HouseStep w) between later end =
    subst
    (λ (held : HeldDocument D J P L). Run (HouseStep w) between later
    (with_held house front id held back lobby (ended + n)))
    (ap (λ (todo : List (Todo J P)). owing new todo) (sym settled))
    (event_run w carries house front id old mid new back (what outs) outs before n [] after rises
    step may p) in
    let free : is_free (slot_of id end.docs) ≡ true =
    rw (
      found front id (Live new) back (still_rises front id (Live old)
          (Live new) back rises),
      settled,
    )
    refl in
    record {
      carried = record {
        events = event ∷ later;
        last = end;
        run = (between, first, run);
        heard = hears_more w carries before (event ∷ []) later before after heard p.heard;
        whole = λ f. (
          outs,
          (
            between,
            event ∷ [],
            later,
            refl,
            (refl, first),
            (all_at D id house.moment p.heres, run, free),
          ),
        );
      };
      works = λ f. or_none (is_done_here (what outs)) (list_any is_work later)
          (any_house D id house.moment p.heres ∙ p.idle);
      faults = λ f. no_fault D id house.moment p.heres;
    }

-- the same, where not all that is owed was done
pub happened_in_part : {D J P L : Type 0} (w : Ways D J P) (carries : L → List LinkEvent)
    (house : House D J P L) (front : List (ℕ × Slot D J P L)) (id : ℕ)
    (old mid : HeldDocument D J P L) (back : List (ℕ × Slot D J P L)) (here : Here J P L)
    (outs : Outs J) (before after : Heard D J P L)
    (plan : Plan (House D J P L) (Happens D J P L)) (fine : Type 0) (worked : Bool)
    (end : House D J P L)
    → (fine → ⊥)
    → Rises (front ++ (id, Live old) ∷ back)
    → HeldStep w house.moment old here (owing mid (todo_of outs))
    → may_join {D = D} (At here) house.lobby ≡ true
    → Hears w carries before (OfDoc id house.moment (At here) ∷ []) before
    → Stops w carries id house.moment mid (todo_of outs) before after
    → Does w carries plan (with_held house front id old back house.lobby house.ended) before fine
    worked end after
happened_in_part {D} {J} {P} {L} w carries house front id old mid back here outs before after plan
    fine worked end none rises step may heard (last, left, n, p) =
    let lobby : List ℕ = lobby_after {D = D} (At here) house.lobby in
    let ended : ℕ = house.ended + ends_by {D = D} (At here) in
    record {
      carried = record {
        events = OfDoc id house.moment (At here) ∷ at_house id house.moment p.heres;
        last = with_held house front id (owing last left) back lobby (ended + n);
        run = (
          with_held house front id (owing mid (todo_of outs)) back lobby ended,
          lifted w house front id old (owing mid (todo_of outs)) back house.lobby house.ended here
              rises step may,
          event_run w carries house front id old mid last back here outs before n left after rises
              step may p,
        );
        heard = hears_more w carries before (OfDoc id house.moment (At here) ∷ [])
            (at_house id house.moment p.heres) before after heard p.heard;
        whole = λ f. absurd (none f);
      };
      works = λ f. absurd (none f);
      faults = λ f. absurd (none f);
    }
