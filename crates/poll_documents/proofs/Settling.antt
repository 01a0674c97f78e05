-- What is owed is done, piece by piece.
use Rattle.std.proofs.Common.{◌≡◌, ℕ, ◌+◌, ◌<◌, ◌≤◌, Bool, true, false, ◌||◌, List, []}
use Rattle.std.proofs.Common.{◌∷◌, ◌++◌, map}
use Rattle.std.proofs.Common.{Option, None, Some, Result, Ok, Err, IsErr}
use Rattle.std.proofs.Common.{refl, ap, sym, subst, ◌∙◌, append_assoc, add_assoc, zero-add, length}
use Rattle.std.proofs.Common.{take, drop, get_or, take-append-drop}
use Rattle.std.specs.List.{AllByRecursion, list_any}
use Rattle.std.proofs.lemmas.List.{map-append, map_more, take_all}
use Rattle.std.proofs.lemmas.List.Folds.{list_any-append}
use Rattle.std.specs.Option.{MatchOption}
use Rattle.cool_base.specs.declared.ids.LinkId.{LinkId}
use Rattle.cool_base.specs.declared.want.Memory.{Memory}
use Rattle.net_traits.specs.Nets.{NetTold, LinkEvent, Tells, Gives as NetGives, Releases}
use Rattle.net_traits.specs.declared.nets.Given.TheVariants.{Sent, Failed}
use Rattle.poll_machine.specs.Words.{Left, nothing, Ways}
use Rattle.poll_machine.specs.Agenda.{HeldDocument, Todo, Give, Leave, LetGo, Here, Gives, Skips}
use Rattle.poll_machine.specs.Agenda.{Leaves, Frees, link_of, without_view}
use Rattle.poll_machine.specs.House.{At, Happens, ends_by}
use Rattle.poll_machine.specs.Project.{HeldMove}
use Rattle.poll_machine.specs.Runs.{Run}
use Rattle.poll_machine.specs.Told.{Heard, link_named, was_given}
use Rattle.poll_machine.specs.Turn.{is_done_here}
use Rattle.poll_machine.proofs.Runs.{runs}
use Rattle.poll_machine.proofs.Carried.{hears_more, hears_none}
use Rattle.poll_documents.specs.Outside.{with_net}
use Rattle.poll_documents.specs.Settling.{Passes, Stops, Settles, owing, timed, at_house, ended_by}
use Rattle.poll_documents.specs.Settling.{KeepsLobby}

-- steps at one moment, and then others
timed_more : {J P L : Type 0} (moment : ℕ) (xs ys : List (Here J P L))
    → timed moment (xs ++ ys) ≡ timed moment xs ++ timed moment ys
timed_more moment [] ys = refl
timed_more moment (x ∷ xs) ys = ap (λ rest. (moment, x) ∷ rest) (timed_more moment xs ys)

-- the events of the house that they are
house_more : (D : Type 0) {J P L : Type 0} (id moment : ℕ) (xs ys : List (Here J P L))
    → at_house {D = D} id moment (xs ++ ys)
    ≡ at_house {D = D} id moment xs ++ at_house {D = D} id moment ys
house_more D id moment [] ys = refl
house_more D {J} {P} {L} id moment (x ∷ xs) ys =
    ap (λ (rest : List (Happens D J P L)). at_house {D = D} id moment (x ∷ []) ++ rest)
    (house_more D id moment xs ys)

-- the links that ended by some, and by others
ended_more : (D : Type 0) {J P L : Type 0} (xs ys : List (Here J P L))
    → ended_by D (xs ++ ys) ≡ ended_by D xs + ended_by D ys
ended_more D [] ys = sym (zero-add (ended_by D ys))
ended_more D (x ∷ xs) ys =
    ap (λ n. ends_by {D = D} (At x) + n) (ended_more D xs ys)
    ∙ sym (add_assoc (ends_by {D = D} (At x)) (ended_by D xs) (ended_by D ys))

-- what leaves the lobby, and then more of it
lobby_more : (D : Type 0) {J P L : Type 0} (links : List ℕ) (xs ys : List (Here J P L))
    → AllByRecursion (KeepsLobby D links) xs → AllByRecursion (KeepsLobby D links) ys
    → AllByRecursion (KeepsLobby D links) (xs ++ ys)
lobby_more D links [] ys one two = two
lobby_more D links (x ∷ xs) ys (first, one) two =
    (first, lobby_more D links xs ys one two)

-- nothing was done
pub passes_none : {D J P L : Type 0} (w : Ways D J P) (carries : L → List LinkEvent)
    (id moment : ℕ) (old : HeldDocument D J P L) (owed : List (Todo J P)) (s : Heard D J P L)
    → Passes w carries id moment old owed s 0 old owed s
passes_none w carries id moment old owed s = record {
  heres = [];
  run = λ rest. refl;
  heard = hears_none w carries s;
  lobby = λ links. tt;
  idle = refl;
  counted = refl;
}

-- nothing could be done
pub stops_none : {D J P L : Type 0} (w : Ways D J P) (carries : L → List LinkEvent)
    (id moment : ℕ) (old : HeldDocument D J P L) (owed : List (Todo J P)) (s : Heard D J P L)
    → Stops w carries id moment old owed s s
stops_none w carries id moment old owed s =
    (old, owed, 0, passes_none w carries id moment old owed s)

-- what was owed first was done but for a rest, and then more of that rest and of what was owed
-- behind it
pub passes_more : {D J P L : Type 0} (w : Ways D J P) (carries : L → List LinkEvent)
    (id moment : ℕ) (old : HeldDocument D J P L) (xs ys : List (Todo J P)) (before : Heard D J P L)
    (n : ℕ) (mid : HeldDocument D J P L) (left : List (Todo J P)) (between : Heard D J P L) (m : ℕ)
    (new : HeldDocument D J P L) (more : List (Todo J P)) (after : Heard D J P L)
    → Passes w carries id moment old xs before n mid left between
    → Passes w carries id moment mid (left ++ ys) between m new more after
    → Passes w carries id moment old (xs ++ ys) before (n + m) new more after
passes_more {D} {J} {P} {L} w carries id moment old xs ys before n mid left between m new more after
    a b = record {
      heres = a.heres ++ b.heres;
      run = λ rest.
          let first : Run (HeldMove w) (owing old (xs ++ (ys ++ rest))) (timed moment a.heres)
          (owing mid ((left ++ ys) ++ rest)) =
          rw (append_assoc left ys rest) (a.run (ys ++ rest))
          in
          rw (append_assoc xs ys rest, timed_more moment a.heres b.heres)
          (runs (HeldMove w) (owing old (xs ++ (ys ++ rest))) (timed moment a.heres)
          (timed moment b.heres) (owing mid ((left ++ ys) ++ rest)) (owing new (more ++ rest)) first
          (b.run rest));
      heard = rw (house_more D id moment a.heres b.heres)
          (hears_more w carries before (at_house id moment a.heres) (at_house id moment b.heres)
          between after a.heard b.heard);
      lobby = λ links. lobby_more D links a.heres b.heres (a.lobby links) (b.lobby links);
      idle = list_any-append (λ here. is_done_here here) a.heres b.heres
          ∙ ap (λ (any : Bool). any || list_any (λ here. is_done_here here) b.heres) a.idle
          ∙ b.idle;
      counted = ended_more D a.heres b.heres ∙ ap (λ k. k + ended_by D b.heres) a.counted
          ∙ ap (λ k. n + k) b.counted;
    }

-- the same, where the second part was cut off
pub stops_more : {D J P L : Type 0} (w : Ways D J P) (carries : L → List LinkEvent)
    (id moment : ℕ) (old : HeldDocument D J P L) (xs ys : List (Todo J P)) (before : Heard D J P L)
    (n : ℕ) (mid : HeldDocument D J P L) (left : List (Todo J P)) (between after : Heard D J P L)
    → Passes w carries id moment old xs before n mid left between
    → Stops w carries id moment mid (left ++ ys) between after
    → Stops w carries id moment old (xs ++ ys) before after
stops_more w carries id moment old xs ys before n mid left between after a (last, more, m, b) = (
  last,
  more,
  n + m,
  passes_more w carries id moment old xs ys before n mid left between m last more after a b,
)

-- what is owed behind it stays owed
pub passes_framed : {D J P L : Type 0} (w : Ways D J P) (carries : L → List LinkEvent)
    (id moment : ℕ) (old : HeldDocument D J P L) (xs ys : List (Todo J P)) (before : Heard D J P L)
    (n : ℕ) (new : HeldDocument D J P L) (left : List (Todo J P)) (after : Heard D J P L)
    → Passes w carries id moment old xs before n new left after
    → Passes w carries id moment old (xs ++ ys) before n new (left ++ ys) after
passes_framed w carries id moment old xs ys before n new left after a = record {
  heres = a.heres;
  run = λ rest. rw (append_assoc xs ys rest, append_assoc left ys rest) (a.run (ys ++ rest));
  heard = a.heard;
  lobby = a.lobby;
  idle = a.idle;
  counted = a.counted;
}

-- what was cut off is a part of all that was owed
pub stops_part : {D J P L : Type 0} (w : Ways D J P) (carries : L → List LinkEvent)
    (id moment : ℕ) (old : HeldDocument D J P L) (xs ys : List (Todo J P))
    (before after : Heard D J P L)
    → Stops w carries id moment old xs before after
    → Stops w carries id moment old (xs ++ ys) before after
stops_part w carries id moment old xs ys before after (last, left, n, a) = (
  last,
  left ++ ys,
  n,
  passes_framed w carries id moment old xs ys before n last left after a,
)

-- what was owed for the things so far was done, and then what is owed for one more
pub passes_next : {D J P L A : Type 0} (w : Ways D J P) (carries : L → List LinkEvent)
    (id moment : ℕ) (owed : A → Todo J P) (old : HeldDocument D J P L) (things : List A) (i : ℕ)
    (thing : A) (before : Heard D J P L) (n : ℕ) (mid : HeldDocument D J P L)
    (between : Heard D J P L) (m : ℕ) (new : HeldDocument D J P L) (after : Heard D J P L)
    → i < length things → thing ≡ get_or things i thing
    → Passes w carries id moment old (map owed (take i things)) before n mid [] between
    → Passes w carries id moment mid (owed thing ∷ []) between m new [] after
    → Passes w carries id moment old (map owed (take (i + 1) things)) before (n + m) new [] after
passes_next {D} {J} {P} {L} {A} w carries id moment owed old things i thing before n mid between m
    new after within is so_far one =
    subst
    (λ (todo : List (Todo J P)). Passes w carries id moment old todo before (n + m) new [] after)
    (sym
    (map_more owed things i thing within
    ∙ ap (λ (x : A). map owed (take i things) ++ owed x ∷ []) (sym is)))
    (passes_more w carries id moment old (map owed (take i things))
    (owed thing ∷ []) before n mid []
    between m new [] after so_far one)

-- the same, where that was cut off
pub stops_next : {D J P L A : Type 0} (w : Ways D J P) (carries : L → List LinkEvent)
    (id moment : ℕ) (owed : A → Todo J P) (old : HeldDocument D J P L) (things : List A) (i : ℕ)
    (thing : A) (before : Heard D J P L) (n : ℕ) (mid : HeldDocument D J P L)
    (between after : Heard D J P L)
    → i < length things → thing ≡ get_or things i thing
    → Passes w carries id moment old (map owed (take i things)) before n mid [] between
    → Stops w carries id moment mid (owed thing ∷ []) between after
    → Stops w carries id moment old (map owed things) before after
stops_next {D} {J} {P} {L} {A} w carries id moment owed old things i thing before n mid between
    after
    within is so_far one =
    let some : Stops w carries id moment old (map owed (take (i + 1) things)) before after =
    subst (λ (todo : List (Todo J P)). Stops w carries id moment old todo before after)
    (sym
    (map_more owed things i thing within
    ∙ ap (λ (x : A). map owed (take i things) ++ owed x ∷ []) (sym is)))
    (stops_more w carries id moment old (map owed (take i things)) (owed thing ∷ []) before n mid []
    between after so_far one)
    in
    subst (λ (todo : List (Todo J P)). Stops w carries id moment old todo before after)
    (sym (map-append owed (take (i + 1) things) (drop (i + 1) things))
    ∙ ap (λ (xs : List A). map owed xs) (take-append-drop (i + 1) things))
    (stops_part w carries id moment old (map owed (take (i + 1) things))
    (map owed (drop (i + 1) things)) before after some)

-- what was owed for all of them was done
pub passes_all : {D J P L A : Type 0} (w : Ways D J P) (carries : L → List LinkEvent)
    (id moment : ℕ) (owed : A → Todo J P) (old : HeldDocument D J P L) (things : List A) (i : ℕ)
    (before : Heard D J P L) (n : ℕ) (new : HeldDocument D J P L) (after : Heard D J P L)
    → length things ≤ i
    → Passes w carries id moment old (map owed (take i things)) before n new [] after
    → Passes w carries id moment old (map owed things) before n new [] after
passes_all {D} {J} {P} {L} {A} w carries id moment owed old things i before n new after past so_far
    =
    subst
    (λ (xs : List A). Passes w carries id moment old (map owed xs) before n new [] after)
    (take_all i things past) so_far

-- a frame whose view has no link is skipped
pub passes_skipped : {D J P L : Type 0} (w : Ways D J P) (carries : L → List LinkEvent)
    (id moment : ℕ) (old : HeldDocument D J P L) (view : ℕ) (frame : List ℕ) (s : Heard D J P L)
    → None ≡ link_of old.views view
    → Passes w carries id moment old (Give view frame ∷ []) s 0 old [] s
passes_skipped w carries id moment old view frame s gone = record {
  heres = Skips view frame ∷ [];
  run = λ rest. (owing old rest, (rest, refl, sym gone, refl), refl);
  heard = record { net = refl; port = refl; store = refl; clock = refl; yard = refl };
  lobby = λ links. ((refl, refl), tt);
  idle = refl;
  counted = refl;
}

-- a frame is given
pub passes_sent : {D J P L : Type 0} (w : Ways D J P) (carries : L → List LinkEvent)
    (id moment : ℕ) (old : HeldDocument D J P L) (view link : ℕ) (frame : List ℕ)
    (s : Heard D J P L) (was now : Option NetTold)
    → link_of old.views view ≡ Some link
    → Tells (λ (a b : NetTold). NetGives a (link_named link) frame Sent b) was now
    → Passes w carries id moment old (Give view frame ∷ []) (with_net s was) 0 old []
    (with_net s now)
passes_sent w carries id moment old view link frame s was now linked told = record {
  heres = Gives view link frame Sent ∷ [];
  run = λ rest. (owing old rest, (rest, refl, linked, refl), refl);
  heard = record { net = (now, told, refl); port = refl; store = refl; clock = refl; yard = refl };
  lobby = λ links. ((refl, refl), tt);
  idle = refl;
  counted = refl;
}

-- a give failed: the view left, and its link was released
pub passes_failed : {D J P L : Type 0} (w : Ways D J P) (carries : L → List LinkEvent)
    (id moment : ℕ) (old : HeldDocument D J P L) (view link : ℕ) (frame : List ℕ) (gave : Option L)
    (s : Heard D J P L) (was mid now : Option NetTold) (doc : D) (new : HeldDocument D J P L)
    → link_of old.views view ≡ Some link
    → Tells (λ (a b : NetTold). NetGives a (link_named link) frame Failed b) was mid
    → w.Steps old.doc (Left view) nothing doc
    → new ≡ record old { doc = doc; views = without_view old.views view }
    → Tells (λ (a b : NetTold). Releases a (link_named link) (was_given gave) b) mid now
    → Passes w carries id moment old (Give view frame ∷ []) (with_net s was) 1 new []
    (with_net s now)
passes_failed {D} {J} {P} {L} w carries id moment old view link frame gave s was mid now doc new
    linked told step is freed =
    subst
    (λ (last : HeldDocument D J P L). Passes w carries id moment old (Give view frame ∷ [])
    (with_net s was) 1 last [] (with_net s now))
    (sym is)
    (record {
      heres = Gives view link frame Failed ∷ Leaves view ∷ Frees link gave ∷ [];
      run = λ rest. (
        owing old (Leave view ∷ LetGo link ∷ rest),
        (rest, refl, linked, refl),
        (
          owing (record old { doc = doc; views = without_view old.views view }) (LetGo link ∷ rest),
          (LetGo link ∷ rest, doc, refl, step, refl),
          (
            owing (record old { doc = doc; views = without_view old.views view }) rest,
            (rest, refl, refl),
            refl,
          ),
        ),
      );
      heard = record {
        net = (mid, told, (now, freed, refl));
        port = refl;
        store = refl;
        clock = refl;
        yard = refl;
      };
      lobby = λ links. ((refl, refl), ((refl, refl), ((refl, refl), tt)));
      idle = refl;
      counted = refl;
    })

-- a release as it is told, whether it gave the link or not
pub gave_so : {L : Type 0} (link : LinkId) (gave : Option L) (was now : Option NetTold)
    → MatchOption gave (Tells (λ (a b : NetTold). Releases a link false b) was now)
    (λ _. Tells (λ (a b : NetTold). Releases a link true b) was now)
    → Tells (λ (a b : NetTold). Releases a link (was_given gave) b) was now
gave_so link None was now told = told
gave_so link (Some carried) was now told = told

-- a call that was out of memory did some of what was owed
pub settles_stop : {D J P L : Type 0} (w : Ways D J P) (carries : L → List LinkEvent)
    (id moment : ℕ) (old : HeldDocument D J P L) (owed : List (Todo J P)) (before : Heard D J P L)
    (result : Result ℕ Memory) (new : HeldDocument D J P L) (after : Heard D J P L)
    → IsErr result → Stops w carries id moment old owed before after
    → Settles w carries id moment old owed before result new after
settles_stop w carries id moment old owed before (Ok n) new after none a = cc
settles_stop w carries id moment old owed before (Err memory) new after none a = a

-- one before it did anything, where the net told nothing more
pub settles_cut : {D J P L : Type 0} (w : Ways D J P) (carries : L → List LinkEvent)
    (id moment : ℕ) (old : HeldDocument D J P L) (owed : List (Todo J P)) (s : Heard D J P L)
    (was now : Option NetTold) (result : Result ℕ Memory) (new : HeldDocument D J P L)
    → IsErr result → now ≡ was
    → Settles w carries id moment old owed (with_net s was) result new (with_net s now)
settles_cut {D} {J} {P} {L} w carries id moment old owed s was now result new none same =
    settles_stop w carries id moment old owed (with_net s was) result new (with_net s now) none
    (subst
    (λ (told : Option NetTold). Stops w carries id moment old owed (with_net s was)
    (with_net s told))
    (sym same) (stops_none w carries id moment old owed (with_net s was)))
