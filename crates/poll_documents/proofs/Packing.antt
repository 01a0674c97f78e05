-- The links of a document's views are released, and those of a document that comes in are adopted.
use Rattle.std.proofs.Common.{◌≡◌, ℕ, ◌+◌, ◌≤◌, ◌-◌, ◌==◌, Bool, true, false, not, cond, List, []}
use Rattle.std.proofs.Common.{◌∷◌}
use Rattle.std.proofs.Common.{◌++◌, Option, None, Some, Result, Ok, Err, IsErr, IsOk, refl, ap}
use Rattle.std.proofs.Common.{subst}
use Rattle.std.proofs.Common.{sym, ◌∙◌, add_assoc, add-zero, length, filter, slice_get, arith}
use Rattle.std.specs.List.{AllByRecursion}
use Rattle.cool_base.specs.declared.ids.LinkId.{LinkId}
use Rattle.cool_base.specs.declared.want.Memory.{Memory}
use Rattle.net_traits.specs.Nets.{NetTold, LinkEvent, Tells, Releases as NetReleases}
use Rattle.net_traits.specs.Nets.{Adopts as NetAdopts}
use Rattle.poll_machine.specs.Words.{Left, nothing, Ways}
use Rattle.poll_machine.specs.Agenda.{HeldDocument, Here, Leave, Leaves, Todo, ViewLink}
use Rattle.poll_machine.specs.Agenda.{Releases, Adopts, link_of, released, without_view}
use Rattle.poll_machine.specs.House.{Slot, Live, At, Happens, OfDoc, House, HouseStep, Rises}
use Rattle.poll_machine.specs.House.{slot_of, is_free}
use Rattle.poll_machine.specs.Lobby.{adopts, here_now, settles}
use Rattle.poll_machine.specs.Plans.{Plan, Rests, Then, Learns, each}
use Rattle.poll_machine.specs.Project.{HeldMove}
use Rattle.poll_machine.specs.Runs.{Run}
use Rattle.poll_machine.specs.Told.{Heard, Hears, link_named}
use Rattle.poll_machine.proofs.Carried.{hears_none}
use Rattle.poll_machine.proofs.Lifted.{with_held, lifted, found, still_rises}
use Rattle.poll_documents.specs.Doing.{Does, in_house}
use Rattle.poll_documents.specs.Links.{AdoptsFirst, CutShort, FirstAdopted, FirstPacked}
use Rattle.poll_documents.specs.Links.{PacksView, ViewPacked, packs, release_of}
use Rattle.poll_documents.specs.Outside.{with_net}
use Rattle.poll_documents.specs.Settling.{KeepsLobby, at_house, ended_by, timed}
use Rattle.poll_documents.proofs.Doing.{does_rests, does_then, does_learns, does_cut}
use Rattle.poll_documents.proofs.Happening.{here_done}
use Rattle.poll_documents.proofs.Housing.{house_run}

-- a call that was out of memory before it did anything more
pub does_stop : {D J P L : Type 0} (w : Ways D J P) (carries : L → List LinkEvent)
    (plan : Plan (House D J P L) (Happens D J P L)) (start : House D J P L) (s : Heard D J P L)
    (fine : Type 0) (worked : Bool) (end : House D J P L)
    → (fine → ⊥) → Does w carries plan start s fine worked end s
does_stop w carries plan start s fine worked end none =
    does_cut w carries Rests plan start s fine fine false worked start end s none
    (does_rests w carries start s fine)

-- the release of a view's link leaves the lobby
pub release_keeps : (D J P : Type 0) {L : Type 0} (pair : ViewLink) (gave : Option L)
    (links : List ℕ)
    → AllByRecursion (KeepsLobby D {J = J} {P = P} links) (release_of pair gave)
release_keeps D J P pair (Some carried) links = ((refl, refl), tt)
release_keeps D J P pair None links = ((refl, refl), ((refl, refl), tt))

-- what is owed after a leave that was owed alone
tail_of : {J P : Type 0} (view : ℕ) (rest : List (Todo J P))
    → Leave view ∷ [] ≡ Leave view ∷ rest → rest ≡ []
tail_of view [] is = refl
tail_of view (t ∷ rest) is = cc

-- the link of one view was released, and where the net had it no longer the view left
released_there : {D J P L : Type 0} (w : Ways D J P) (carries : L → List LinkEvent)
    (house : House D J P L) (front back : List (ℕ × Slot D J P L)) (id ended : ℕ)
    (pair : ViewLink) (gave : Option L) (old new : HeldDocument D J P L)
    (before after : Heard D J P L) (fine : Type 0)
    → Rises (front ++ (id, Live old) ∷ back)
    → Run (HeldMove w) old (timed house.moment (release_of pair gave)) new
    → Hears w carries before (at_house id house.moment (release_of pair gave)) after
    → Does w carries
    (Learns (λ (gave : Option L). Then (here_now id (Releases pair.view pair.link gave))
    (settles id)))
    (in_house house front (id, Live old) back ended) before fine false
    (in_house house front (id, Live new) back
    (ended + ended_by D {J = J} {P = P} (release_of pair gave))) after
released_there {D} {J} {P} {L} w carries house front back id ended pair
    (Some carried) old new before
    after fine rises (mid, step, is) heard =
    let here : Here J P L = Releases pair.view pair.link (Some carried) in
    let first : HouseStep w (with_held house front id old back house.lobby ended)
    (OfDoc id house.moment (At here)) (with_held house front id mid back house.lobby (ended + 0)) =
    lifted w house front id old mid back house.lobby ended here rises step refl in
    let end : House D J P L = with_held house front id mid back house.lobby (ended + 0) in
    let free : is_free (slot_of id end.docs) ≡ true =
    rw (
      found front id (Live mid) back (still_rises front id (Live old) (Live mid) back rises),
      step.2,
      step.0,
    )
    refl in
    subst
    (λ (last : HeldDocument D J P L). Does w carries
    (Learns (λ (gave : Option L). Then (here_now id (Releases pair.view pair.link gave))
    (settles id)))
    (in_house house front (id, Live old) back ended) before fine false
    (in_house house front (id, Live last) back (ended + 0)) after)
    (sym is)
    (record {
      carried = record {
        events = OfDoc id house.moment (At here) ∷ [];
        last = end;
        run = (end, first, refl);
        heard = heard;
        whole = λ f. (
          Some carried,
          (end, OfDoc id house.moment (At here) ∷ [], [], refl, (refl, first), (tt, refl, free)),
        );
      };
      works = λ f. refl;
      faults = λ f. refl;
    })
released_there {D} {J} {P} {L} w carries house front back id ended pair None old new before after
    fine
    rises (mid, step, (next, (rest, doc, owed, left, is_next), is)) heard =
    let here : Here J P L = Releases pair.view pair.link None in
    let then : Here J P L = Leaves pair.view in
    let between : House D J P L = with_held house front id mid back house.lobby (ended + 1) in
    let end : House D J P L = with_held house front id next back house.lobby (ended + 1) in
    let still : Rises (front ++ (id, Live mid) ∷ back) =
    still_rises front id (Live old) (Live mid) back rises in
    let first : HouseStep w (with_held house front id old back house.lobby ended)
    (OfDoc id house.moment (At here)) between =
    lifted w house front id old mid back house.lobby ended here rises step refl in
    let second : HouseStep w between (OfDoc id house.moment (At then)) end =
    subst
    (λ (k : ℕ). HouseStep w between (OfDoc id house.moment (At then))
    (with_held house front id next back house.lobby k))
    (add-zero (ended + 1))
    (lifted w house front id mid next back house.lobby (ended + 1) then still
    (rest, doc, owed, left, is_next) refl) in
    let none : rest ≡ [] =
    tail_of pair.view rest (sym (ap (λ (h : HeldDocument D J P L). h.todo) step.2) ∙ owed) in
    let free : is_free (slot_of id end.docs) ≡ true =
    rw (
      found front id (Live next) back (still_rises front id (Live mid) (Live next) back still),
      is_next,
      none,
    )
    refl in
    subst
    (λ (last : HeldDocument D J P L). Does w carries
    (Learns (λ (gave : Option L). Then (here_now id (Releases pair.view pair.link gave))
    (settles id)))
    (in_house house front (id, Live old) back ended) before fine false
    (in_house house front (id, Live last) back (ended + 1)) after)
    (sym is)
    (record {
      carried = record {
        events = OfDoc id house.moment (At here) ∷ OfDoc id house.moment (At then) ∷ [];
        last = end;
        run = (between, first, (end, second, refl));
        heard = heard;
        whole = λ f. (
          None,
          (
            between,
            OfDoc id house.moment (At here) ∷ [],
            OfDoc id house.moment (At then) ∷ [],
            refl,
            (refl, first),
            ((same id, tt), (end, second, refl), free),
          ),
        );
      };
      works = λ f. refl;
      faults = λ f. refl;
    })
  where
    same : (n : ℕ) → (n == n) ≡ true
    same n = grind arith

-- the first view's link is released, and then those of the others
pub packs_next : {D J P L : Type 0} (w : Ways D J P) (carries : L → List LinkEvent)
    (house : House D J P L) (front back : List (ℕ × Slot D J P L)) (id ended n : ℕ)
    (old new : HeldDocument D J P L) (before between : Heard D J P L) (fine : Type 0)
    (end : House D J P L) (after : Heard D J P L)
    → Rises (front ++ (id, Live old) ∷ back)
    → FirstPacked w carries id house.moment old before n new between
    → Does w carries (packs id new) (in_house house front (id, Live new) back (ended + n)) between
    fine false end after
    → Does w carries (packs id old) (in_house house front
    (id, Live old) back ended) before fine false
    end after
packs_next {D} {J} {P} {L} w carries house front back id ended n old new before between fine end
    after
    rises p later =
    let plan : ViewLink → Plan (House D J P L) (Happens D J P L) = λ s. Learns
    (λ (gave : Option L). Then (here_now id (Releases s.view s.link gave)) (settles id)) in
    let mid : House D J P L = in_house house front (id, Live new) back (ended + n) in
    let one : Does w carries (plan p.pair) (in_house house front (id, Live old) back ended) before
    (Unit {0}) false mid between =
    subst
    (λ (k : ℕ). Does w carries (plan p.pair) (in_house house front (id, Live old) back ended) before
    (Unit {0}) false (in_house house front (id, Live new) back (ended + k)) between)
    p.counted
    (released_there w carries house front back id ended p.pair p.gave old new before between
    (Unit {0})
    rises p.run p.heard) in
    subst
    (λ (views : List ViewLink). Does w carries (each plan views)
    (in_house house front (id, Live old) back ended) before fine false end after)
    (sym p.views)
    (does_then w carries (plan p.pair) (each plan new.views)
    (in_house house front
    (id, Live old) back ended) before false mid between fine false end after one
    later)

-- the same, where nothing more was done
pub packs_one : {D J P L : Type 0} (w : Ways D J P) (carries : L → List LinkEvent)
    (house : House D J P L) (front back : List (ℕ × Slot D J P L)) (id ended n : ℕ)
    (old new : HeldDocument D J P L) (before between : Heard D J P L) (fine : Type 0)
    (end : House D J P L)
    → (fine → ⊥) → Rises (front ++ (id, Live old) ∷ back)
    → FirstPacked w carries id house.moment old before n new between
    → Does w carries (packs id old) (in_house house front
    (id, Live old) back ended) before fine false
    end between
packs_one w carries house front back id ended n old new before between fine end none rises p =
    packs_next w carries house front back id ended n old new before between fine end between rises p
    (does_stop w carries (packs id new) (in_house house front (id, Live new) back
    (ended + n)) between
    fine false end none)

-- a call that was cut off at one release
pub does_short : {D J P L : Type 0} (w : Ways D J P) (carries : L → List LinkEvent)
    (plan : Plan (House D J P L) (Happens D J P L)) (house : House D J P L)
    (front back : List (ℕ × Slot D J P L)) (id ended : ℕ) (old : HeldDocument D J P L)
    (before after : Heard D J P L) (fine : Type 0) (end : House D J P L)
    → (fine → ⊥) → Rises (front ++ (id, Live old) ∷ back)
    → CutShort w carries id house.moment old before after
    → Does w carries plan (in_house house front
    (id, Live old) back ended) before fine false end after
does_short {D} {J} {P} {L} w carries plan house front back id ended old before after fine end none
    rises
    (heres, last, run, heard, keeps) = record {
      carried = record {
        events = at_house id house.moment heres;
        last = with_held house front id last back house.lobby (ended + ended_by D heres);
        run = house_run w house front id old last back house.lobby ended heres rises
            (keeps house.lobby) run;
        heard = heard;
        whole = λ f. absurd (none f);
      };
      works = λ f. absurd (none f);
      faults = λ f. absurd (none f);
    }

-- no link is left
pub packs_none : {D J P L : Type 0} (w : Ways D J P) (carries : L → List LinkEvent)
    (held : HeldDocument D J P L) (id : ℕ) (start : House D J P L) (s : Heard D J P L)
    (fine : Type 0)
    → held.views ≡ [] → Does w carries (packs id held) start s fine false start s
packs_none {D} {J} {P} {L} w carries held id start s fine none =
    subst
    (λ (views : List ViewLink). Does w carries
    (each (λ p. Learns
    (λ (gave : Option L). Then (here_now id (Releases p.view p.link gave))
    (settles id))) views) start
    s fine false start s)
    (sym none) (does_rests w carries start s fine)

-- the packed link that comes first is adopted, and then the others
pub adopts_next : {D J P L : Type 0} (w : Ways D J P) (carries : L → List LinkEvent)
    (house : House D J P L) (front back : List (ℕ × Slot D J P L)) (id : ℕ)
    (old new : HeldDocument D J P L) (before between : Heard D J P L) (fine : Type 0)
    (end : House D J P L) (after : Heard D J P L)
    → Rises (front ++ (id, Live old) ∷ back)
    → FirstAdopted w carries id house.moment old before new between
    → Does w carries (adopts id new) (in_house house front (id, Live new) back house.ended) between
    fine false end after
    → Does w carries (adopts id old) (in_house house front
    (id, Live old) back house.ended) before fine
    false end after
adopts_next {D} {J} {P} {L} w carries house front back id old new before between fine end after
    rises p
    later =
    let plan : ℕ × L → Plan (House D J P L) (Happens D J P L) = λ x. Learns
    (λ (link : ℕ). here_now id (Adopts x.0 x.1 link)) in
    let start : House D J P L = in_house house front (id, Live old) back house.ended in
    let mid : House D J P L = in_house house front (id, Live new) back house.ended in
    let done : Does w carries (here_now id (Adopts p.view p.carried p.link)) start before
    (Unit {0}) false
    mid between =
    subst
    (λ (k : ℕ). Does w carries (here_now id (Adopts p.view p.carried p.link)) start before
    (Unit {0})
    false (in_house house front (id, Live new) back k) between)
    (add-zero house.ended)
    (here_done w carries house front id old new back (Adopts p.view p.carried p.link) before between
    (Unit {0}) rises p.step refl p.heard) in
    let one : Does w carries (plan (p.view, p.carried)) start before (Unit {0}) false mid between =
    does_learns w carries (λ (link : ℕ). here_now id
    (Adopts p.view p.carried link)) p.link start before
    (Unit {0}) false mid between done in
    subst
    (λ (packed : List (ℕ × L)). Does w carries (each plan packed) start before fine false end after)
    (sym p.packed)
    (does_then w carries (plan (p.view, p.carried))
    (each plan new.packed) start before false mid between
    fine false end after one later)

-- no packed link is left
pub adopts_none : {D J P L : Type 0} (w : Ways D J P) (carries : L → List LinkEvent)
    (held : HeldDocument D J P L) (id : ℕ) (start : House D J P L) (s : Heard D J P L)
    (fine : Type 0)
    → held.packed ≡ [] → Does w carries (adopts id held) start s fine false start s
adopts_none {D} {J} {P} {L} w carries held id start s fine none =
    subst
    (λ (packed : List (ℕ × L)). Does w carries
    (each (λ x. Learns (λ (link : ℕ). here_now id (Adopts x.0 x.1 link))) packed) start s fine false
    start s)
    (sym none) (does_rests w carries start s fine)

-- the net released the link of a view, and the document packed it
pub packed_so : {D J P L : Type 0} (w : Ways D J P) (carries : L → List LinkEvent)
    (id moment : ℕ) (old new : HeldDocument D J P L) (pair : ViewLink) (carried : L)
    (s : Heard D J P L) (was now : Option NetTold)
    → old.todo ≡ [] → link_of old.views pair.view ≡ Some pair.link
    → Tells (λ (a b : NetTold). NetReleases a (link_named pair.link) true b) was now
    → new ≡ record old {
      views = without_view old.views pair.view;
      packed = old.packed ++ (pair.view, carried) ∷ [];
    }
    → ViewPacked w carries id moment old pair (with_net s was) 0 new (with_net s now)
packed_so {D} {J} {P} {L} w carries id moment old new pair carried s was now free linked told is =
    record {
      gave = Some carried;
      views = ap (λ (h : HeldDocument D J P L). h.views) is;
      run = (released old pair.view (Some carried), (free, linked, refl), is);
      heard = record { net = (now, told, refl); port = refl; store = refl; clock = refl; yard = refl };
      counted = refl;
    }

-- the same, where it couldn't
pub packed_cut : {D J P L : Type 0} (w : Ways D J P) (carries : L → List LinkEvent)
    (id moment : ℕ) (old : HeldDocument D J P L) (pair : ViewLink) (carried : L)
    (s : Heard D J P L) (was now : Option NetTold)
    → old.todo ≡ [] → link_of old.views pair.view ≡ Some pair.link
    → Tells (λ (a b : NetTold). NetReleases a (link_named pair.link) true b) was now
    → CutShort w carries id moment old (with_net s was) (with_net s now)
packed_cut w carries id moment old pair carried s was now free linked told = (
  Releases pair.view pair.link (Some carried) ∷ [],
  released old pair.view (Some carried),
  (released old pair.view (Some carried), (free, linked, refl), refl),
  record { net = (now, told, refl); port = refl; store = refl; clock = refl; yard = refl },
  λ links. ((refl, refl), tt),
)

-- the net had the link no longer, and the view left
pub left_so : {D J P L : Type 0} (w : Ways D J P) (carries : L → List LinkEvent)
    (id moment : ℕ) (old new : HeldDocument D J P L) (pair : ViewLink)
    (s : Heard D J P L) (was now : Option NetTold)
    → old.todo ≡ [] → new.todo ≡ [] → link_of old.views pair.view ≡ Some pair.link
    → Tells (λ (a b : NetTold). NetReleases a (link_named pair.link) false b) was now
    → w.Steps old.doc (Left pair.view) nothing new.doc
    → new ≡ record old { doc = new.doc; views = without_view old.views pair.view }
    → ViewPacked w carries id moment old pair (with_net s was) 1 new (with_net s now)
left_so {D} {J} {P} {L} w carries id moment old new pair s was now free settled linked told step is
    = record {
      gave = None;
      views = ap (λ (h : HeldDocument D J P L). h.views) is;
      run = (
        released old pair.view None,
        (free, linked, refl),
        (
          new,
          (
            [],
            new.doc,
            refl,
            step,
            is
                ∙ ap
                (λ (todo : List (Todo J P)). record old {
                  doc = new.doc;
                  views = without_view old.views pair.view;
                  todo = todo;
                })
                free,
          ),
          refl,
        ),
      );
      heard = record { net = (now, told, refl); port = refl; store = refl; clock = refl; yard = refl };
      counted = refl;
    }

-- nothing was done
pub short_none : {D J P L : Type 0} (w : Ways D J P) (carries : L → List LinkEvent)
    (id moment : ℕ) (old : HeldDocument D J P L) (s : Heard D J P L)
    → CutShort w carries id moment old s s
short_none w carries id moment old s = ([], old, refl, hears_none w carries s, λ links. tt)

-- a view's link was released, and nothing more
pub short_one : {D J P L : Type 0} (w : Ways D J P) (carries : L → List LinkEvent)
    (id moment : ℕ) (old new : HeldDocument D J P L) (pair : ViewLink) (n : ℕ)
    (before after : Heard D J P L)
    → ViewPacked w carries id moment old pair before n new after
    → CutShort w carries id moment old before after
short_one {D} {J} {P} w carries id moment old new pair n before after p =
    (release_of pair p.gave, new, p.run, p.heard, release_keeps D J P pair p.gave)

-- a call that was out of memory
pub view_short : {D J P L : Type 0} (w : Ways D J P) (carries : L → List LinkEvent)
    (id moment : ℕ) (old : HeldDocument D J P L) (pair : ViewLink) (before : Heard D J P L)
    (result : Result ℕ Memory) (new : HeldDocument D J P L) (after : Heard D J P L)
    → IsErr result → CutShort w carries id moment old before after
    → PacksView w carries id moment old pair before result new after
view_short w carries id moment old pair before (Ok n) new after none cut = cc
view_short w carries id moment old pair before (Err memory) new after none cut = cut

-- what passes a test is all of it, where it is as many
kept_le : {A : Type 0} (test : A → Bool) (xs : List A) → length (filter test xs) ≤ length xs
kept_le test [] = omega arith
kept_le {A} test (x ∷ xs) = by_test (test x) (kept_le test xs)
  where
    by_test : (b : Bool) → length (filter test xs) ≤ length xs
        → length (cond b (x ∷ filter test xs) (filter test xs)) ≤ length (x ∷ xs)
    by_test true le = omega (arith, le)
    by_test false le = omega (arith, le)

kept_all : {A : Type 0} (test : A → Bool) (xs : List A)
    → length (filter test xs) ≡ length xs → filter test xs ≡ xs
kept_all test [] same = refl
kept_all {A} test (x ∷ xs) same = by_test (test x) same (kept_le test xs) (kept_all test xs)
  where
    by_test : (b : Bool) → length (cond b (x ∷ filter test xs) (filter test xs)) ≡ length (x ∷ xs)
        → length (filter test xs) ≤ length xs
        → (length (filter test xs) ≡ length xs → filter test xs ≡ xs)
        → cond b (x ∷ filter test xs) (filter test xs) ≡ x ∷ xs
    by_test true is le all = ap (λ (ys : List A). x ∷ ys) (all (omega (arith, is)))
    by_test false is le all = absurd (omega (arith, is, le))

same_some : {A : Type 0} (x y : A) → Some x ≡ Some y → x ≡ y
same_some x y is = cc

same_view : (n : ℕ) → (n == n) ≡ true
same_view n = grind arith

-- the view that came first has its link
pub first_linked : (views : List ViewLink) (pair : ViewLink) → Some pair ≡ slice_get views 0
    → link_of views pair.view ≡ Some pair.link
first_linked [] pair is = cc
first_linked (x ∷ rest) pair is =
    subst (λ (p : ViewLink). link_of (x ∷ rest) p.view
    ≡ Some p.link) (sym (same_some pair x is)) here
  where
    here : link_of (x ∷ rest) x.view ≡ Some x.link
    here = rw (same_view x.view) refl

-- it stands once
pub first_once : (views left : List ViewLink) (pair : ViewLink) → Some pair ≡ slice_get views 0
    → left ≡ without_view views pair.view → length left + 1 ≡ length views
    → views ≡ pair ∷ left
first_once [] left pair is without same = cc
first_once (x ∷ rest) left pair is without same =
    let first : pair ≡ x = same_some pair x is in
    let later : left ≡ without_view rest pair.view =
    without
    ∙ ap (λ (p : ViewLink). without_view (x ∷ rest) p.view) first
    ∙ gone
    ∙ ap (λ (p : ViewLink). without_view rest p.view) (sym first) in
    let all : without_view rest pair.view ≡ rest =
    kept_all (λ (s : ViewLink). not (s.view == pair.view)) rest
    (sym (ap (λ (xs : List ViewLink). length xs) later) ∙ omega (arith, same)) in
    ap (λ (p : ViewLink). p ∷ rest) (sym first)
    ∙ ap (λ (xs : List ViewLink). pair ∷ xs) (sym (later ∙ all))
  where
    gone : without_view (x ∷ rest) x.view ≡ without_view rest x.view
    gone = rw (same_view x.view) refl

-- a document has a view
pub has_first : (views : List ViewLink) (pair : ViewLink) → Some pair ≡ slice_get views 0
    → 1 ≤ length views
has_first [] pair is = cc
has_first (x ∷ rest) pair is = omega arith

-- the view that came first was released
pub first_packed : {D J P L : Type 0} (w : Ways D J P) (carries : L → List LinkEvent)
    (id moment : ℕ) (old new : HeldDocument D J P L) (pair : ViewLink) (n : ℕ)
    (before after : Heard D J P L)
    → Some pair ≡ slice_get old.views 0 → length new.views + 1 ≡ length old.views
    → ViewPacked w carries id moment old pair before n new after
    → FirstPacked w carries id moment old before n new after
first_packed w carries id moment old new pair n before after first count p = record {
  pair = pair;
  gave = p.gave;
  views = first_once old.views new.views pair first p.views count;
  run = p.run;
  heard = p.heard;
  counted = p.counted;
}

-- an error is no answer
pub no_answer : {A E : Type 0} (result : Result A E) → IsErr result → IsOk result → ⊥
no_answer (Ok a) none fine = cc
no_answer (Err e) none fine = cc

pub empty_list : {A : Type 0} (xs : List A) → length xs ≡ 0 → xs ≡ []
empty_list [] none = refl
empty_list (x ∷ xs) none = absurd (omega (arith, none))

-- one link more was released, as so many that ended are counted
pub packs_more : {D J P L : Type 0} (w : Ways D J P) (carries : L → List LinkEvent)
    (house : House D J P L) (front back : List (ℕ × Slot D J P L)) (id ended n sum : ℕ)
    (first old new : HeldDocument D J P L) (before between : Heard D J P L) (fine : Type 0)
    (end : House D J P L) (after : Heard D J P L)
    → sum ≡ ended + n → Rises (front ++ (id, Live first) ∷ back)
    → FirstPacked w carries id house.moment old before n new between
    → Does w carries (packs id new) (in_house house front (id, Live new) back (house.ended + sum))
    between fine false end after
    → Does w carries (packs id old) (in_house house front (id, Live old) back (house.ended + ended))
    before fine false end after
packs_more {D} {J} {P} {L} w carries house front back id ended n sum first old new before between
    fine
    end after is rises p later =
    packs_next w carries house front back id
    (house.ended + ended) n old new before between fine end after
    (still_rises front id (Live first) (Live old) back rises) p
    (subst
    (λ (k : ℕ). Does w carries (packs id new) (in_house house front
    (id, Live new) back k) between fine
    false end after)
    (ap (λ (k : ℕ). house.ended + k) is ∙ sym (add_assoc house.ended ended n)) later)

-- the link that was packed first is adopted
pub adopted_so : {D J P L : Type 0} (w : Ways D J P) (carries : L → List LinkEvent)
    (id moment : ℕ) (old new : HeldDocument D J P L) (view : ℕ) (carried : L) (link : LinkId)
    (rest : List (ℕ × L)) (s : Heard D J P L) (was now : Option NetTold)
    → old.todo ≡ [] → old.packed ≡ (view, carried) ∷ rest
    → Tells (λ (a b : NetTold). NetAdopts a link (carries carried) b) was now
    → new ≡ record old {
      packed = rest;
      views = old.views ++ record { view = view; link = link.0 } ∷ [];
    }
    → FirstAdopted w carries id moment old (with_net s was) new (with_net s now)
adopted_so {D} {J} {P} {L} w carries id moment old new view carried link rest s was now free packed
    told
    is = record {
      view = view;
      carried = carried;
      link = link.0;
      packed = packed
          ∙ ap (λ (xs : List (ℕ × L)). (view, carried) ∷ xs)
          (sym (ap (λ (h : HeldDocument D J P L). h.packed) is));
      step = (rest, free, packed, is);
      heard = record {
        net = (now, told, refl);
        port = refl;
        store = refl;
        clock = refl;
        yard =
            refl;
      };
    }

-- the same, where it couldn't be noted
pub adopted_cut : {D J P L : Type 0} (w : Ways D J P) (carries : L → List LinkEvent)
    (id moment : ℕ) (old : HeldDocument D J P L) (view : ℕ) (carried : L) (link : LinkId)
    (rest : List (ℕ × L)) (s : Heard D J P L) (was now : Option NetTold)
    → old.todo ≡ [] → old.packed ≡ (view, carried) ∷ rest
    → Tells (λ (a b : NetTold). NetAdopts a link (carries carried) b) was now
    → CutShort w carries id moment old (with_net s was) (with_net s now)
adopted_cut {D} {J} {P} {L} w carries id moment old view carried link rest s was now free packed
    told =
    let new : HeldDocument D J P L = record old {
      packed = rest;
      views = old.views ++ record { view = view; link = link.0 } ∷ [];
    } in (
      Adopts view carried link.0 ∷ [],
      new,
      (new, (rest, free, packed, refl), refl),
      record { net = (now, told, refl); port = refl; store = refl; clock = refl; yard = refl },
      λ links. ((refl, refl), tt),
    )

-- nothing was called
pub short_same : {D J P L : Type 0} (w : Ways D J P) (carries : L → List LinkEvent)
    (id moment : ℕ) (old : HeldDocument D J P L) (s : Heard D J P L) (was now : Option NetTold)
    → now ≡ was → CutShort w carries id moment old (with_net s was) (with_net s now)
short_same {D} {J} {P} {L} w carries id moment old s was now same =
    subst
    (λ (told : Option NetTold). CutShort w carries id moment old (with_net s was) (with_net s told))
    (sym same) (short_none w carries id moment old (with_net s was))

pub adopt_short : {D J P L : Type 0} (w : Ways D J P) (carries : L → List LinkEvent)
    (id moment : ℕ) (old : HeldDocument D J P L) (before : Heard D J P L)
    (result : Result (Unit {0}) Memory) (new : HeldDocument D J P L) (after : Heard D J P L)
    → IsErr result → CutShort w carries id moment old before after
    → AdoptsFirst w carries id moment old before result new after
adopt_short w carries id moment old before (Ok u) new after none cut = cc
adopt_short w carries id moment old before (Err memory) new after none cut = cut

-- the document once a view's link was packed
pub packed_is : {D J P L : Type 0} (old base : HeldDocument D J P L) (views : List ViewLink)
    (packed : List (ℕ × L)) (view : ℕ) (carried : L)
    → base ≡ old → views ≡ without_view base.views view
    → packed ≡ base.packed ++ (view, carried) ∷ []
    → record base { views = views; packed = packed } ≡ record old {
      views = without_view old.views view;
      packed = old.packed ++ (view, carried) ∷ [];
    }
packed_is {D} {J} {P} {L} old base views packed view carried is one two =
    subst
    (λ (h : HeldDocument D J P L). record base { views = views; packed = packed } ≡ record h {
      views = without_view h.views view;
      packed = h.packed ++ (view, carried) ∷ [];
    })
    is
    (ap (λ (xs : List ViewLink). record base { views = xs; packed = packed }) one
    ∙ ap (λ (xs : List (ℕ
    × L)). record base { views = without_view base.views view; packed = xs }) two)

-- the document once a packed link was adopted
pub adopted_is : {D J P L : Type 0} (old base : HeldDocument D J P L) (views : List ViewLink)
    (packed : List (ℕ × L)) (pair : ViewLink)
    → base ≡ old → views ≡ base.views ++ pair ∷ []
    → record base { views = views; packed = packed } ≡ record old {
      packed = packed;
      views = old.views ++ pair ∷ [];
    }
adopted_is {D} {J} {P} {L} old base views packed pair is one =
    subst
    (λ (h : HeldDocument D J P L). record base { views = views; packed = packed } ≡ record h {
      packed = packed;
      views = h.views ++ pair ∷ [];
    })
    is
    (ap (λ (xs : List ViewLink). record base { views = xs; packed = packed }) one)

-- one view less
pub one_less : (left count old new : ℕ) → left ≡ old → count ≡ new → 1 ≤ old → count ≡ left - 1
    → new + 1 ≡ old
one_less left count old new a b c d = omega (arith, a, b, c, d)

-- one link less
pub one_longer : {A : Type 0} (xs ys : List A) (x : A) → xs ≡ x ∷ ys → length ys + 1 ≡ length xs
one_longer {A} xs ys x is = rw is (omega arith)

-- no link ended yet
pub does_begin : {D J P L : Type 0} (w : Ways D J P) (carries : L → List LinkEvent)
    (plan : Plan (House D J P L) (Happens D J P L)) (house : House D J P L)
    (front back : List (ℕ × Slot D J P L)) (lodged : ℕ × Slot D J P L) (s : Heard D J P L)
    (fine : Type 0) (end : House D J P L) (t : Heard D J P L)
    → Does w carries plan (in_house house front lodged back (house.ended + 0)) s fine false end t
    → Does w carries plan (in_house house front lodged back house.ended) s fine false end t
does_begin {D} {J} {P} {L} w carries plan house front back lodged s fine end t does =
    subst
    (λ (k : ℕ). Does w carries plan (in_house house front lodged back k) s fine false end t)
    (add-zero house.ended) does
