-- Acknowledgements: what they are, that they leave less to do, and that without any all is at rest.
use Rattle.std.proofs.Common.{◌≡◌, ◌≢◌, ◌∙◌, ℕ, suc, ◌<◌, ◌≤◌, ◌^◌, Bool, true, false, cond, List, [], ◌∷◌, ◌++◌, length, map, get_or, nat_eq, nat_lt, Option, None, Some, refl, ap, sym, subst, arith}
use Rattle.std.specs.Prelude.{Ok}
use Rattle.std.specs.BTreeMap.{is_at}
use Rattle.std.specs.List.{AllByRecursion}
use Rattle.std.specs.List.Sorted.{IsStrictlySortedBy}
use Rattle.std.specs.Map.{lookup}
use Rattle.std.specs.Option.{is_some}
use Rattle.std.specs.Ordering.{nat_cmp, is_eq}
use Rattle.std.specs.declared.cmp.Ordering.{Ordering}
use Rattle.std.specs.declared.cmp.Ordering.TheVariants.{Less, Equal}
use Rattle.std.proofs.lemmas.Bool.Decides.{nat_tests}
use Rattle.std.proofs.lemmas.Map.Keys.{sorted_head, sorted_tail}
use Rattle.cool_message.specs.Reading.{reading}
use Rattle.cool_message.specs.Writing.{written}
use Rattle.cool_message.specs.declared.message.ClientMessage.TheVariants.{TileProcessed}
use Rattle.document_laws.proofs.Acknowledged.{written_read, said_lowers}
use Rattle.document_laws.specs.AtOnce.{numbers, IsAcknowledged}
use Rattle.document_laws.proofs.Views.{found_view}
use Rattle.document_machine.specs.Held.{Held}
use Rattle.document_machine.specs.Keys.{Pairwise}
use Rattle.document_machine.specs.Kept.{IsViewKept}
use Rattle.document_machine.specs.Quiet.{IsQuiet, AllRight}
use Rattle.document_machine.specs.Rank.{left_to_do}
use Rattle.document_machine.specs.State.{View, Document, find_view}
use Rattle.send_window.specs.Tiles.{Sent}
use Rattle.kit_trait.specs.Rules.{Rules}
use Rattle.tile_key.specs.Places.{Place}
use Rattle.script_world.specs.House.{House, seated, seated_at, SaysAs, TakesOne, wids_of, window_in, says_processed, acknowledgements_by, acknowledgements, ids_of, IsSeated, IsHousedBy, IsHoused}
use Rattle.script_world.specs.Moved.{Came, TurnWritten, AllAcknowledge, AreSmall, left_of}
use Rattle.script_world.specs.Seats.{Seats, view_of, link_in}
use Rattle.script_run.proofs.Moves.{adds_nothing}
use Rattle.script_world.specs.World.{Seen, Acknowledge, Moves, RestsNow, IsAtRest}
use Rattle.script_world.specs.declared.event.Waiting.{Waiting}
use Rattle.script_world.specs.declared.event.Waiting.TheVariants.{Says}
use Rattle.script_world.proofs.Chains.{came_one, came_joined}
use Rattle.script_world.proofs.Housed.{Keeps, first_housed}
use Rattle.script_world.proofs.Ids.{HasLink, same_number}
use Rattle.script_world.proofs.Steps.{document_left}

pub each_small : (xs : List ℕ) → ((k : ℕ) → get_or xs k 0 < 2 ^ 64) → AllByRecursion (λ (n : ℕ). n < 2 ^ 64) xs
each_small [] all = tt
each_small (x ∷ xs) all = (all 0, each_small xs (λ k. all (suc k)))

some_window : (view : View) (wid : ℕ) (wids : List ℕ) → map (λ (tile : Sent). tile.wid) view.window ≡ wid ∷ wids → view.window ≢ []
some_window view wid wids is none =
    let e : map (λ (tile : Sent). tile.wid) [] ≡ wid ∷ wids = subst (λ (w : List Sent). map (λ (tile : Sent). tile.wid) w ≡ wid ∷ wids) none is in
    cc

-- the text of a window's numbers is read as them
window_read : {C B S : Type 0} (rules : Rules C B) (d : Document S) (id : ℕ) (found : Option View) (wid : ℕ) (wids : List ℕ) → AllByRecursion (IsViewKept rules d) d.views → find_view d.views id ≡ found
    → wids_of found ≡ wid ∷ wids → AllByRecursion (λ (n : ℕ). n < 2 ^ 64) (wids_of found) → reading (written (TileProcessed (wid ∷ wids))) ≡ Ok (TileProcessed (wid ∷ wids))
window_read rules d id None wid wids kept is has small = absurd (cc)
window_read {C} {B} {S} rules d id (Some view) wid wids kept is has small =
    let few : length view.window ≤ 64 = (found_view (IsViewKept rules d) d.views id view kept is).window_few in
    subst (λ (w : List ℕ). reading (written (TileProcessed w)) ≡ Ok (TileProcessed w)) has (written_read rules d view (some_window view wid wids has) few small)

seat_acks : {C B S : Type 0} (rules : Rules C B) (cut : C → Place → S) (document : Option (Held S)) (seats : Seats) (link id : ℕ) (wids : List ℕ) → IsHousedBy rules cut seats document → window_in document id ≡ wids
    → AllByRecursion (λ (n : ℕ). n < 2 ^ 64) (window_in document id) → AllAcknowledge (says_processed link wids)
seat_acks rules cut document seats link id [] housed is small = tt
seat_acks rules cut None seats link id (wid ∷ wids) housed is small = absurd (cc)
seat_acks rules cut (Some held) seats link id (wid ∷ wids) housed is small =
    ((wid ∷ wids, window_read rules held.document id (find_view held.document.views id) wid wids housed.kept.document.each refl is small), tt)

acks_append : (a b : List Waiting) → AllAcknowledge a → AllAcknowledge b → AllAcknowledge (a ++ b)
acks_append [] b one other = other
acks_append (x ∷ a) b one other = (one.0, acks_append a b one.1 other)

-- all of them are acknowledgements
pub all_acks : {C B S : Type 0} (rules : Rules C B) (cut : C → Place → S) (document : Option (Held S)) (seats : Seats) (views : List (ℕ × ℕ)) → IsHousedBy rules cut seats document → AreSmall document views → AllAcknowledge (acknowledgements_by document views)
all_acks rules cut document seats [] housed small = tt
all_acks rules cut document seats (seat ∷ views) housed small =
    acks_append (says_processed seat.0 (window_in document seat.1)) (acknowledgements_by document views)
    (seat_acks rules cut document seats seat.0 seat.1 (window_in document seat.1) housed refl small.0) (all_acks rules cut document seats views housed small.1)

-- the first of them: its link is a view with an unacknowledged tile
pub record IsFirst {S : Type 0} (document : Option (Held S)) (views : List (ℕ × ℕ)) (event : Waiting) : Type 1 where
  pub link : ℕ
  pub id : ℕ
  pub wid : ℕ
  pub wids : List ℕ
  pub window : window_in document id ≡ wid ∷ wids
  pub is : event ≡ Says link (written (TileProcessed (wid ∷ wids)))
  pub at : lookup (is_at (nat_cmp link)) views ≡ Some id
  pub small : AllByRecursion (λ (n : ℕ). n < 2 ^ 64) (window_in document id)
  pub among : (P : ℕ → Type 0) → AllByRecursion P (map (λ (e : ℕ × ℕ). e.0) views) → P link

same_order : (n : ℕ) → nat_cmp n n ≡ Equal
same_order n = grind (arith, nat_tests)

not_less : (n m : ℕ) → nat_lt n m ≡ true → is_eq (nat_cmp m n) ≡ false
not_less n m less = grind (arith, nat_tests)

less_back : (n m : ℕ) (b : Bool) → nat_lt n m ≡ b → nat_cmp n m ≡ Less → is_eq (nat_cmp m n) ≡ false
less_back n m true is less = not_less n m is
less_back n m false is less = grind (arith, nat_tests)

after_less : (n m : ℕ) → nat_cmp n m ≡ Less → is_eq (nat_cmp m n) ≡ false
after_less n m less = less_back n m (nat_lt n m) refl less

first_at : (link id : ℕ) (views : List (ℕ × ℕ)) → lookup (is_at (nat_cmp link)) ((link, id) ∷ views) ≡ Some id
first_at link id views = subst (λ (o : Ordering). cond (is_eq o) (Some id) (lookup (is_at (nat_cmp link)) views) ≡ Some id) (sym (same_order link)) refl

later_at : (link other id found : ℕ) (views : List (ℕ × ℕ)) → is_eq (nat_cmp link other) ≡ false → lookup (is_at (nat_cmp link)) views ≡ Some found → lookup (is_at (nat_cmp link)) ((other, id) ∷ views) ≡ Some found
later_at link other id found views apart at = subst (λ (b : Bool). cond b (Some id) (lookup (is_at (nat_cmp link)) views) ≡ Some found) (sym apart) at

first_by : {S : Type 0} (document : Option (Held S)) (seat : ℕ × ℕ) (views : List (ℕ × ℕ)) (wids : List ℕ) (event : Waiting) (events : List Waiting)
    → window_in document seat.1 ≡ wids → AllByRecursion (λ (n : ℕ). n < 2 ^ 64) (window_in document seat.1) → IsStrictlySortedBy nat_cmp (map (λ (e : ℕ × ℕ). e.0) (seat ∷ views))
    → (acknowledgements_by document views ≡ event ∷ events → IsFirst document views event)
    → says_processed seat.0 wids ++ acknowledgements_by document views ≡ event ∷ events → IsFirst document (seat ∷ views) event
first_by document seat views [] event events is small sorted further all =
    let f = further all in
    record {
      link = f.link;
      id = f.id;
      wid = f.wid;
      wids = f.wids;
      window = f.window;
      is = f.is;
      at = later_at f.link seat.0 seat.1 f.id views (after_less seat.0 f.link (f.among (λ (k : ℕ). nat_cmp seat.0 k ≡ Less) (sorted_head nat_cmp seat.0 (map (λ (e : ℕ × ℕ). e.0) views) sorted))) f.at;
      small = f.small;
      among = λ P all_of. f.among P all_of.1;
    }
first_by document seat views (wid ∷ wids) event events is small sorted further all =
    record {
      link = seat.0;
      id = seat.1;
      wid = wid;
      wids = wids;
      window = is;
      is = (cc);
      at = first_at seat.0 seat.1 views;
      small = small;
      among = λ P all_of. all_of.0;
    }

pub first_of_all : {S : Type 0} (document : Option (Held S)) (views : List (ℕ × ℕ)) (event : Waiting) (events : List Waiting)
    → AreSmall document views → IsStrictlySortedBy nat_cmp (map (λ (e : ℕ × ℕ). e.0) views) → acknowledgements_by document views ≡ event ∷ events → IsFirst document views event
first_of_all document [] event events small sorted all = absurd (cc)
first_of_all document (seat ∷ views) event events small sorted all =
    first_by document seat views (window_in document seat.1) event events refl small.0 sorted
    (λ later. first_of_all document views event events small.1 (sorted_tail nat_cmp seat.0 (map (λ (e : ℕ × ℕ). e.0) views) sorted) later) all

-- the view of the first acknowledgement
pub record HasTiles {S : Type 0} (d : Document S) (id wid : ℕ) (wids : List ℕ) : Type 0 where
  pub view : View
  pub live : find_view d.views id ≡ Some view
  pub window : numbers view ≡ wid ∷ wids

has_tiles : {S : Type 0} (d : Document S) (id : ℕ) (found : Option View) (wid : ℕ) (wids : List ℕ) → find_view d.views id ≡ found → wids_of found ≡ wid ∷ wids → HasTiles d id wid wids
has_tiles d id None wid wids is has = absurd (cc)
has_tiles d id (Some view) wid wids is has = record { view = view; live = is; window = has }

seated_is : {S : Type 0} (held : Held S) (id : ℕ) (view : View) → find_view held.document.views id ≡ Some view → seated_at (Some held) (Some id) ≡ Some (held, id)
seated_is {S} held id view live =
    let f : Bool → Option (Held S × ℕ) = λ b. cond b (Some (held, id)) None in
    ap f (ap is_some live)

-- the first acknowledgement leaves less to do
first_less : {C B S : Type 0} (rules : Rules C B) (cut : C → Place → S) (old : House S) (document : Option (Held S)) (event : Waiting) (out : List ℕ) (new : House S)
    → old.document ≡ document → IsHousedBy rules cut old.seats document → IsFirst document old.seats.views event → TakesOne rules cut event old out new → left_of rules new.document < left_of rules document
first_less rules cut old None event out new is housed first takes = let odd : [] ≡ first.wid ∷ first.wids = first.window in absurd (cc)
first_less {C} {B} {S} rules cut old (Some held) event out new is housed first takes =
    let d : Document S = held.document in
    let tiles = has_tiles d first.id (find_view d.views first.id) first.wid first.wids refl first.window in
    let text : List ℕ = written (TileProcessed (first.wid ∷ first.wids)) in
    let says : SaysAs rules cut old first.link text (seated old first.link) out new = subst (λ (e : Waiting). TakesOne rules cut e old out new) first.is takes in
    let found : seated old first.link ≡ Some (held, first.id) =
    ap (λ (o : Option (Held S)). seated_at o (view_of old.seats first.link)) is ∙ ap (λ (v : Option ℕ). seated_at (Some held) v) first.at ∙ seated_is held first.id tiles.view tiles.live in
    let said : SaysAs rules cut old first.link text (Some (held, first.id)) out new = subst (λ (f : Option (Held S × ℕ)). SaysAs rules cut old first.link text f out new) found says in
    let some : tiles.view.window ≢ [] = some_window tiles.view first.wid first.wids tiles.window in
    let read : reading text ≡ Ok (TileProcessed (numbers tiles.view)) =
    window_read rules d first.id (find_view d.views first.id) first.wid first.wids housed.kept.document.each refl first.window first.small
    ∙ ap (λ (w : List ℕ). Ok (TileProcessed w)) (sym tiles.window) in
    let gone : IsAcknowledged rules d first.id tiles.view said.1 said.0.document = said_lowers rules d first.id tiles.view text said.1 said.0.document tiles.live some read said.2.0 in
    let less : left_to_do rules said.0.document < left_to_do rules d = gone.less in
    let new_is : left_of rules new.document ≡ left_to_do rules said.0.document = ap (λ (h : House S). left_of rules h.document) said.3 in
    omega (arith, less, new_is)

-- the poll turn that takes it leaves less to do, and then acknowledgements wait
pub first_turn : {C B S : Type 0} (rules : Rules C B) (cut : C → Place → S) (keeps : Keeps rules cut) (waiting : List Waiting) (old : House S) (worked : Bool) (rest : List Waiting) (new : House S) (b c : Option (List ℕ))
    → IsHoused rules cut old → waiting ≡ acknowledgements old → 0 < length waiting → AreSmall old.document old.seats.views → IsStrictlySortedBy nat_cmp (map (λ (e : ℕ × ℕ). e.0) old.seats.views)
    → TurnWritten rules cut waiting old worked rest new b c → AllAcknowledge rest × (left_of rules new.document < left_of rules old.document)
first_turn rules cut keeps [] old worked rest new b c housed are some small sorted written = absurd (omega (arith, some))
first_turn {C} {B} {S} rules cut keeps (event ∷ events) old worked rest new b c housed are some small sorted written =
    let turn = written.done in
    let mid : IsHoused rules cut turn.mid = first_housed rules cut keeps (event ∷ events) old turn.here rest turn.mid housed turn.takes in
    let first : IsFirst old.document old.seats.views event = first_of_all old.document old.seats.views event events small sorted (sym are) in
    let less : left_of rules turn.mid.document < left_of rules old.document = first_less rules cut old old.document event turn.here turn.mid refl housed first turn.takes.1 in
    let later = document_left rules cut turn.mid.seats turn.mid.document turn.later turn.turned new.document mid turn.turns in
    let acks : AllAcknowledge (event ∷ events) = subst AllAcknowledge (sym are) (all_acks rules cut old.document old.seats old.seats.views housed small) in
    (subst AllAcknowledge (sym turn.takes.0) acks.1, omega (arith, less, later))

-- without acknowledgements every window is empty
none_in : (a b : List Waiting) → a ++ b ≡ [] → (a ≡ []) × (b ≡ [])
none_in [] b none = (refl, none)
none_in (x ∷ a) b none = absurd (cc)

no_wids : (link : ℕ) (wids : List ℕ) → says_processed link wids ≡ [] → wids ≡ []
no_wids link [] none = refl
no_wids link (wid ∷ wids) none = absurd (cc)

empty_at : {S : Type 0} (document : Option (Held S)) (views : List (ℕ × ℕ)) (id : ℕ) → acknowledgements_by document views ≡ [] → HasLink views id → window_in document id ≡ []
empty_at document [] id none has = absurd (cc)
empty_at {S} document (seat ∷ views) id none has =
    let parts = none_in (says_processed seat.0 (window_in document seat.1)) (acknowledgements_by document views) none in
    elim (nat_eq seat.1 id) as (λ b. nat_eq seat.1 id ≡ b → is_some (cond b (Some seat.0) (link_in views id)) ≡ true → window_in document id ≡ []) [
      | true ↦ λ is there. let same : seat.1 ≡ id = grind arith in subst (λ (n : ℕ). window_in document n ≡ []) same (no_wids seat.0 (window_in document seat.1) parts.0)
      | false ↦ λ is there. empty_at document views id parts.1 there
    ] refl has

no_tiles : (window : List Sent) → map (λ (tile : Sent). tile.wid) window ≡ [] → window ≡ []
no_tiles [] none = refl
no_tiles (tile ∷ window) none = absurd (cc)

other_id : (n m : ℕ) → n < m → nat_eq n m ≡ false
other_id n m less = grind arith

-- a view in front of others doesn't hide them
found_later : (v : View) (vs ws : List View) → AllByRecursion (λ (w : View). v.id < w.id) ws → AllByRecursion (λ (w : View). find_view vs w.id ≡ Some w) ws → AllByRecursion (λ (w : View). find_view (v ∷ vs) w.id ≡ Some w) ws
found_later v vs [] above found = tt
found_later v vs (w ∷ ws) above found = (
  subst (λ (b : Bool). cond b (Some v) (find_view vs w.id) ≡ Some w) (sym (other_id v.id w.id above.0)) found.0,
  found_later v vs ws above.1 found.1,
)

-- each view is found by its id
found_each : (views : List View) → Pairwise (λ (v w : View). v.id < w.id) views → AllByRecursion (λ (v : View). find_view views v.id ≡ Some v) views
found_each [] order = tt
found_each (v ∷ vs) order = (
  subst (λ (b : Bool). cond b (Some v) (find_view vs v.id) ≡ Some v) (sym (same_number v.id)) refl,
  found_later v vs vs order.0 (found_each vs order.1),
)

empty_each : {S : Type 0} (held : Held S) (seats : List (ℕ × ℕ)) (views : List View) → acknowledgements_by (Some held) seats ≡ [] → AllByRecursion (HasLink seats) (ids_of views)
    → AllByRecursion (λ (v : View). find_view held.document.views v.id ≡ Some v) views → AllByRecursion (λ (v : View). v.window ≡ []) views
empty_each held seats [] none linked found = tt
empty_each {S} held seats (v ∷ vs) none linked found =
    let empty : wids_of (find_view held.document.views v.id) ≡ [] = empty_at (Some held) seats v.id none linked.0 in
    (no_tiles v.window (subst (λ (o : Option View). wids_of o ≡ []) found.0 empty), empty_each held seats vs none linked.1 found.1)

-- a house that rests without acknowledgements is at rest
pub at_rest : {C B S : Type 0} (rules : Rules C B) (cut : C → Place → S) (seats : Seats) (document : Option (Held S)) → ((held : Held S) → IsQuiet rules held.document → IsSeated rules cut seats held → AllRight rules held.document) → IsHousedBy rules cut seats document → RestsNow rules document
    → acknowledgements_by document seats.views ≡ [] → IsAtRest rules document
at_rest rules cut seats None right housed rests none = tt
at_rest rules cut seats (Some held) right housed rests none =
    let empty : AllByRecursion (λ (v : View). v.window ≡ []) held.document.views = empty_each held seats.views held.document.views none housed.linked (found_each held.document.views housed.kept.document.ids) in
    let quiet : IsQuiet rules held.document = record { rests = rests; no_job = housed.none_out; no_put = housed.none_put; empty = empty } in
    (quiet, right held quiet housed)

-- the pass that found acknowledgements: turns up to the last that works, then they wait
pub acks_came : {C B S : Type 0} (rules : Rules C B) (cut : C → Place → S) (start : Seen S) (still : House S) (waiting : List Waiting) (a b c : Option (List ℕ)) (was : House S)
    → Came (Moves rules cut) start (record { waiting = []; house = was }) a b → Came (Moves rules cut) (record { waiting = []; house = was }) (record { waiting = []; house = still }) b c
    → RestsNow rules still.document → waiting ≡ acknowledgements still → 0 < length waiting
    → Came (Moves rules cut) start (record { waiting = waiting; house = still }) a c
acks_came {C} {B} {S} rules cut start still waiting a b c was first works rests are some =
    let s : Seen S = record { waiting = []; house = still } in
    let t : Seen S = record { waiting = waiting; house = still } in
    came_joined (Moves rules cut) start s t a c c (came_joined (Moves rules cut) start (record { waiting = []; house = was }) s a b c first works)
    (came_one (Moves rules cut) Acknowledge s [] t c c
    ((refl, rests), subst (λ (w : List Waiting). 0 < length w) are some, refl, ap (λ (w : List Waiting). record { waiting = w; house = still }) are) (adds_nothing c))
