-- What a house keeps: its document is as a broker keeps it with its tiles, no job of it is out, no put of it is under way,
-- and each of its views has a link.
use Rattle.std.proofs.Common.{◌≡◌, ◌≢◌, ◌∙◌, ℕ, ◌<◌, Bool, true, false, cond, ◌&&◌, List, [], ◌∷◌, ◌++◌, length, nat_lt, Option, None, Some, refl, sym, ap, subst}
use Rattle.std.specs.BTreeMap.{is_at}
use Rattle.std.specs.List.{AllByRecursion, list_any}
use Rattle.std.specs.Option.{is_some, is_none}
use Rattle.std.specs.Ordering.{nat_cmp}
use Rattle.document_laws.specs.AtOnce.{all_answered}
use Rattle.document_laws.proofs.Heard.{effect_good}
use Rattle.document_laws.proofs.Lower.{at_once_lowers}
use Rattle.document_laws.proofs.Moving.{opening_held_keeps}
use Rattle.document_laws.proofs.Views.{found_view}
use Rattle.document_machine.proofs.Turns.{does_turn, moves_step}
use Rattle.cool_base.specs.declared.ids.ViewId.{ViewId}
use Rattle.cool_frame.specs.declared.frame.Frame.{Frame}
use Rattle.document_machine.specs.Event.{Event, Joined, Left, Said, Turned}
use Rattle.document_machine.specs.Goes.{Moves, next_work}
use Rattle.document_machine.specs.Held.{Held, opening_held}
use Rattle.document_machine.specs.Kept.{IsHeld, IsViewKept}
use Rattle.document_machine.specs.Message.{Effect, effect, saving_after, with_save, with_token}
use Rattle.document_machine.specs.Outputs.{nothing}
use Rattle.document_machine.specs.Rank.{left_to_do}
use Rattle.document_machine.specs.Run.{Run, Segment}
use Rattle.document_machine.specs.Saves.{is_last_view, needs_final_save, saving_left}
use Rattle.document_machine.specs.State.{Document, opening_view, find_view, without_view}
use Rattle.document_machine.specs.Step.{Step, Works, JoinsWhere as MachineJoins}
use Rattle.document_machine.specs.declared.limits.TheConstants.{MOST_VIEWS}
use Rattle.document_machine.specs.declared.outs.Outs.{Outs}
use Rattle.document_machine.specs.declared.outs.Turned.TheVariants.{Worked}
use Rattle.document_machine.specs.declared.rights.Rights.{Rights}
use Rattle.kit_trait.specs.Rules.{Rules}
use Rattle.kit_trait.specs.declared.values.Input.{Input}
use Rattle.save_core.specs.Saving.{Saving, final_waits, final_with}
use Rattle.tile_key.specs.Places.{Place}
use Rattle.script_world.specs.House.{House, rights, JoinsWhere, BeginsWhere, LoadsOne, LoadsWhere, seated_at, seated, SaysAs, LeavesAs, TakesOne, TakesFirst, WorksAtOnce, TurnsDocument, PollTurn, ids_of, IsSeated, IsHousedBy, IsHoused}
use Rattle.script_world.specs.Seats.{Seats, view_of, is_waiting, enters, sits, without}
use Rattle.script_world.specs.declared.event.Waiting.{Waiting}
use Rattle.script_world.specs.declared.event.Waiting.TheVariants.{Opened, Loads, Says, Gone}
use Rattle.script_world.proofs.Saying.{one_if}
use Rattle.script_world.proofs.Ids.{HasLink, ids-heard, ids-works, ids-answers, sits_others, sits_new, gone_others, gone_none, ids_without, ids_stay, ids_lack, all_by, all_more, all_on, ids-append}

-- what is kept of a document with its tiles is kept by every move
abbrev pub Keeps : {C B S : Type 0} → Rules C B → (C → Place → S) → Type 0
Keeps {C} {B} {S} rules cut = (old new : Held S) (event : Event S) (outs : Outs S) → Moves rules cut old event outs new → IsHeld rules cut old → IsHeld rules cut new

-- a run of moves is one of the document's steps
pub steps_of : {C B S : Type 0} (rules : Rules C B) (cut : C → Place → S) (events : List (Event S)) (old new : Held S) (outs : Outs S) → Run (Moves rules cut) old events outs new → Segment rules cut old.document events outs new.document
steps_of {C} {B} {S} rules cut [] old new outs run = (run.0, ap (λ (held : Held S). held.document) run.1)
steps_of rules cut (event ∷ events) old new outs run =
    (run.0.document, run.1, run.2, moves_step rules cut old run.0 event run.1 run.3, steps_of rules cut events run.0 new run.2 run.4, run.5)

-- a message begins no put, and neither does a view that leaves
token_put : (inputs : List Input) (token : List ℕ) (s : Saving) → (with_token inputs token s).put ≡ s.put
token_put [] token s = refl
token_put (input ∷ inputs) token s = refl

save_put : (save : Option Bool) (view mark : ℕ) (token : List ℕ) (s : Saving) → (with_save save view mark token s).put ≡ s.put
save_put None view mark token s = refl
save_put (Some skip) view mark token s = refl

heard_put : (view mark : ℕ) (e : Effect) (s : Saving) → (saving_after view mark e s).put ≡ s.put
heard_put view mark e s = save_put e.save view mark e.view.rights.token (with_token e.inputs e.view.rights.token s) ∙ token_put e.inputs e.view.rights.token s

final_put : (mark : ℕ) (token : Option (List ℕ)) (s : Saving) → (final_with mark token s).put ≡ s.put
final_put mark None s = refl
final_put mark (Some token) s = refl

left_put : {S : Type 0} (d : Document S) (id : ℕ) → (saving_left d id).put ≡ d.saving.put
left_put d id =
    elim (is_last_view d.views id && needs_final_save d) as (λ b. (cond b (final_waits (length d.journal) d.saving) d.saving).put ≡ d.saving.put) [
      | true ↦ final_put (length d.journal) d.saving.last_token d.saving
      | false ↦ refl
    ]

and_right : (a b : Bool) → (a && b) ≡ true → b ≡ true
and_right true b is = is
and_right false b is = absurd (cc)

none_is : (o : Option ℕ) → is_none o ≡ true → o ≡ None
none_is None is = refl
none_is (Some n) is = absurd (cc)

-- a link of the lobby is no view
no_view : (seats : Seats) (link : ℕ) → is_waiting seats link ≡ true → view_of seats link ≡ None
no_view seats link waits = none_is (view_of seats link) (and_right (list_any (is_at (nat_cmp link)) seats.lobby) (is_none (view_of seats link)) waits)

-- a view that joined
joined : {C B S : Type 0} (rules : Rules C B) (cut : C → Place → S) (keeps : Keeps rules cut) (seats : Seats) (link : ℕ) (given : Rights) (old new : Held S) (outs : Outs S) (b : Bool)
    → nat_lt (length old.document.views) MOST_VIEWS ≡ b → b ≡ true → view_of seats link ≡ None → IsSeated rules cut seats old → Moves rules cut old (Joined given) outs new
    → IsSeated rules cut (sits seats link old.document.next_view) new
joined {C} {B} {S} rules cut keeps seats link given old new outs b room is none housed moves =
    let d : Document S = old.document in
    let e : Document S = new.document in
    let joins : MachineJoins true rules d given outs e = subst (λ (x : Bool). MachineJoins x rules d given outs e) (room ∙ is) moves.0 in
    let views : e.views ≡ d.views ++ opening_view d.next_view given ∷ [] = ap (λ (x : Document S). x.views) joins.1 in
    let kept : AllByRecursion (HasLink (sits seats link d.next_view).views) (ids_of d.views) = all_on (HasLink seats.views) (HasLink (sits seats link d.next_view).views) (ids_of d.views) (λ id h. sits_others seats.views link d.next_view id none h) housed.linked in
    let all : AllByRecursion (HasLink (sits seats link d.next_view).views) (ids_of d.views ++ d.next_view ∷ []) = all_more (HasLink (sits seats link d.next_view).views) (ids_of d.views) d.next_view kept (sits_new seats.views link d.next_view) in
    record {
      kept = keeps old new (Joined given) outs moves housed.kept;
      none_out = ap (λ (x : Document S). x.jobs) joins.1 ∙ housed.none_out;
      none_put = ap (λ (x : Document S). x.saving.put) joins.1 ∙ housed.none_put;
      linked = subst (AllByRecursion (HasLink (sits seats link d.next_view).views)) (sym (ap ids_of views ∙ ids-append d.views (opening_view d.next_view given))) all;
    }

joins_by : {C B S : Type 0} (rules : Rules C B) (cut : C → Place → S) (keeps : Keeps rules cut) (seats : Seats) (link : ℕ) (given : Rights) (d : Held S) (out : List ℕ) (new : House S) (b : Bool)
    → nat_lt (length d.document.views) MOST_VIEWS ≡ b → view_of seats link ≡ None → IsSeated rules cut seats d → JoinsWhere b rules cut seats link given d out new → IsHoused rules cut new
joins_by {C} {B} {S} rules cut keeps seats link given d out new true room none housed joins =
    subst (IsHoused rules cut) (sym joins.3) (joined rules cut keeps seats link given d joins.0 joins.1 true room refl none housed joins.2)
joins_by rules cut keeps seats link given d out new false room none housed joins = subst (IsHoused rules cut) (sym joins.1) housed

begins_by : {C B S : Type 0} (rules : Rules C B) (cut : C → Place → S) (keeps : Keeps rules cut) (seats : Seats) (link : ℕ) (file : List ℕ) (given : Rights) (out : List ℕ) (new : House S) (b : Bool)
    → rules.accepts [] ≡ b → view_of seats link ≡ None → BeginsWhere b rules cut seats link file given out new → IsHoused rules cut new
begins_by {C} {B} {S} rules cut keeps seats link file given out new true accepted none begins =
    joins_by rules cut keeps seats link given (opening_held file []) out new true refl none
    (record { kept = opening_held_keeps rules cut file [] accepted; none_out = refl; none_put = refl; linked = tt }) begins
begins_by rules cut keeps seats link file given out new false accepted none begins = subst (IsHoused rules cut) (sym begins.1) tt

loads_by : {C B S : Type 0} (rules : Rules C B) (cut : C → Place → S) (keeps : Keeps rules cut) (seats : Seats) (document : Option (Held S)) (link : ℕ) (file : List ℕ) (given : Rights) (out : List ℕ) (new : House S)
    → view_of seats link ≡ None → IsHousedBy rules cut seats document → LoadsOne rules cut seats document link file given out new → IsHoused rules cut new
loads_by rules cut keeps seats None link file given out new none housed loads = begins_by rules cut keeps seats link file given out new (rules.accepts []) refl none loads
loads_by rules cut keeps seats (Some d) link file given out new none housed loads = joins_by rules cut keeps seats link given d out new (nat_lt (length d.document.views) MOST_VIEWS) refl none housed loads

load_by : {C B S : Type 0} (rules : Rules C B) (cut : C → Place → S) (keeps : Keeps rules cut) (old : House S) (link : ℕ) (file : List ℕ) (given : Rights) (out : List ℕ) (new : House S) (b : Bool)
    → is_waiting old.seats link ≡ b → IsHoused rules cut old → LoadsWhere b rules cut old link file given out new → IsHoused rules cut new
load_by rules cut keeps old link file given out new true waits housed loads =
    loads_by rules cut keeps old.seats old.document link file given out new (no_view old.seats link waits) housed loads
load_by rules cut keeps old link file given out new false waits housed loads = subst (IsHoused rules cut) (sym loads.1) housed

-- a seat that was found is the document's
pub found_document : {S : Type 0} (document : Option (Held S)) (seat : Option ℕ) (found : Held S × ℕ) → seated_at document seat ≡ Some found → (document ≡ Some found.0) × (seat ≡ Some found.1)
found_document None seat found is = absurd (cc)
found_document (Some d) None found is = absurd (cc)
found_document {S} (Some d) (Some id) found is =
    elim (is_some (find_view d.document.views id)) as (λ b. cond b (Some (d, id)) None ≡ Some found → (Some d ≡ Some found.0) × (Some id ≡ Some found.1)) [
      | true ↦ λ e. let same : (d, id) ≡ found = cc in (ap (λ (x : Held S × ℕ). Some x.0) same, ap (λ (x : Held S × ℕ). Some x.1) same)
      | false ↦ λ e. absurd (cc)
    ] is

pub housed_at : {C B S : Type 0} (rules : Rules C B) (cut : C → Place → S) (seats : Seats) (document : Option (Held S)) (d : Held S) → document ≡ Some d → IsHousedBy rules cut seats document → IsSeated rules cut seats d
housed_at {C} {B} {S} rules cut seats document d is housed = subst (IsHousedBy rules cut seats) is housed

-- a message
says_by : {C B S : Type 0} (rules : Rules C B) (cut : C → Place → S) (keeps : Keeps rules cut) (old : House S) (link : ℕ) (text : List ℕ) (found : Option (Held S × ℕ)) (out : List ℕ) (new : House S)
    → seated old link ≡ found → IsHoused rules cut old → SaysAs rules cut old link text found out new → IsHoused rules cut new
says_by rules cut keeps old link text None out new is housed says = subst (IsHoused rules cut) (sym says.1) housed
says_by {C} {B} {S} rules cut keeps old link text (Some seat) out new is housed says =
    let there : IsSeated rules cut old.seats seat.0 = housed_at rules cut old.seats old.document seat.0 (found_document old.document (view_of old.seats link) seat is).0 housed in
    let d : Document S = seat.0.document in
    let step : Step rules cut d (Said seat.1 text) says.1 says.0.document = says.2.0 in
    let good = effect_good rules d step.view (found_view (IsViewKept rules d) d.views seat.1 step.view there.kept.document.each step.live) text in
    subst (IsHoused rules cut) (sym says.3) (record {
      kept = keeps seat.0 says.0 (Said seat.1 text) says.1 says.2 there.kept;
      none_out = ap (λ (x : Document S). x.jobs) step.new_is ∙ there.none_out;
      none_put = ap (λ (x : Document S). x.saving.put) step.new_is ∙ heard_put seat.1 (length d.journal) (effect rules d step.view text) d.saving ∙ there.none_put;
      linked = subst (AllByRecursion (HasLink old.seats.views)) (sym (ap (λ (x : Document S). ids_of x.views) step.new_is ∙ ids-heard d seat.1 step.view (effect rules d step.view text) step.live good.id)) there.linked;
    })

lacks_view : {S : Type 0} (d : Held S) (view : ℕ) (b : Bool) → None ≡ one_if b d view → b ≡ false
lacks_view d view true e = absurd (cc)
lacks_view d view false e = refl

-- a link that is gone
gone_by : {S : Type 0} (seats : Seats) (d : Held S) (link : ℕ) (view : Option ℕ) → view_of seats link ≡ view → None ≡ seated_at (Some d) view
    → AllByRecursion (HasLink seats.views) (ids_of d.document.views) → AllByRecursion (HasLink (without seats link).views) (ids_of d.document.views)
gone_by seats d link None none lacks all = all_on (HasLink seats.views) (HasLink (without seats link).views) (ids_of d.document.views) (λ id h. gone_none (is_at (nat_cmp link)) seats.views id none h) all
gone_by {S} seats d link (Some view) is lacks all =
    let not_there : is_some (find_view d.document.views view) ≡ false =
    lacks_view d view (is_some (find_view d.document.views view)) lacks
    in
    all_by (λ (n : ℕ). n ≢ view) (HasLink seats.views) (HasLink (without seats link).views) (ids_of d.document.views)
    (λ id apart h. gone_others (is_at (nat_cmp link)) seats.views view id is apart h) (ids_lack d.document.views view not_there) all

leaves_none : {C B S : Type 0} (rules : Rules C B) (cut : C → Place → S) (seats : Seats) (document : Option (Held S)) (link : ℕ) → None ≡ seated_at document (view_of seats link) → IsHousedBy rules cut seats document → IsHousedBy rules cut (without seats link) document
leaves_none rules cut seats None link lacks housed = tt
leaves_none rules cut seats (Some d) link lacks housed = record {
  kept = housed.kept;
  none_out = housed.none_out;
  none_put = housed.none_put;
  linked = gone_by seats d link (view_of seats link) refl lacks housed.linked;
}

leaves_by : {C B S : Type 0} (rules : Rules C B) (cut : C → Place → S) (keeps : Keeps rules cut) (old : House S) (link : ℕ) (found : Option (Held S × ℕ)) (out : List ℕ) (new : House S)
    → seated old link ≡ found → IsHoused rules cut old → LeavesAs rules cut old link found out new → IsHoused rules cut new
leaves_by rules cut keeps old link None out new is housed leaves = subst (IsHoused rules cut) (sym leaves.1) (leaves_none rules cut old.seats old.document link (sym is) housed)
leaves_by {C} {B} {S} rules cut keeps old link (Some seat) out new is housed leaves =
    let at = found_document old.document (view_of old.seats link) seat is in
    let there : IsSeated rules cut old.seats seat.0 = housed_at rules cut old.seats old.document seat.0 at.0 housed in
    let d : Document S = seat.0.document in
    let step : Step rules cut d (Left seat.1) nothing leaves.0.document = leaves.1.0 in
    let apart : AllByRecursion (λ (n : ℕ). n ≢ seat.1) (ids_of (without_view d.views seat.1)) = ids_without d.views seat.1 there.kept.document.ids in
    let stay : AllByRecursion (HasLink old.seats.views) (ids_of (without_view d.views seat.1)) = ids_stay (HasLink old.seats.views) d.views seat.1 there.linked in
    let links : AllByRecursion (HasLink (without old.seats link).views) (ids_of (without_view d.views seat.1)) =
    all_by (λ (n : ℕ). n ≢ seat.1) (HasLink old.seats.views) (HasLink (without old.seats link).views) (ids_of (without_view d.views seat.1))
    (λ id other h. gone_others (is_at (nat_cmp link)) old.seats.views seat.1 id at.1 other h) apart stay
    in
    subst (IsHoused rules cut) (sym leaves.3) (record {
      kept = keeps seat.0 leaves.0 (Left seat.1) nothing leaves.1 there.kept;
      none_out = ap (λ (x : Document S). x.jobs) step.1 ∙ there.none_out;
      none_put = ap (λ (x : Document S). x.saving.put) step.1 ∙ left_put d seat.1 ∙ there.none_put;
      linked = subst (AllByRecursion (HasLink (without old.seats link).views)) (sym (ap (λ (x : Document S). ids_of x.views) step.1)) links;
    })

-- a link that comes
enters_by : {C B S : Type 0} (rules : Rules C B) (cut : C → Place → S) (seats : Seats) (link : ℕ) (document : Option (Held S)) → IsHousedBy rules cut seats document → IsHousedBy rules cut (enters seats link) document
enters_by rules cut seats link None housed = tt
enters_by rules cut seats link (Some d) housed = record { kept = housed.kept; none_out = housed.none_out; none_put = housed.none_put; linked = housed.linked }

-- an event
pub takes_housed : {C B S : Type 0} (rules : Rules C B) (cut : C → Place → S) (keeps : Keeps rules cut) (event : Waiting) (old : House S) (out : List ℕ) (new : House S)
    → IsHoused rules cut old → TakesOne rules cut event old out new → IsHoused rules cut new
takes_housed rules cut keeps (Opened link) old out new housed takes = subst (IsHoused rules cut) (sym takes.1) (enters_by rules cut old.seats link old.document housed)
takes_housed rules cut keeps (Loads link file writes) old out new housed takes = load_by rules cut keeps old link file (rights writes) out new (is_waiting old.seats link) refl housed takes
takes_housed rules cut keeps (Says link text) old out new housed takes = says_by rules cut keeps old link text (seated old link) out new refl housed takes
takes_housed rules cut keeps (Gone link) old out new housed takes = leaves_by rules cut keeps old link (seated old link) out new refl housed takes

-- the runs of kept documents
pub runs_keep : {C B S : Type 0} (rules : Rules C B) (cut : C → Place → S) (keeps : Keeps rules cut) (events : List (Event S)) (old new : Held S) (outs : Outs S) → Run (Moves rules cut) old events outs new → IsHeld rules cut old → IsHeld rules cut new
runs_keep rules cut keeps [] old new outs run kept = subst (IsHeld rules cut) (sym run.1) kept
runs_keep rules cut keeps (event ∷ events) old new outs run kept = runs_keep rules cut keeps events run.0 new run.2 run.4 (keeps old run.0 event run.1 run.3 kept)

-- the work that a turn did
pub works_of : {C B S : Type 0} (rules : Rules C B) (cut : C → Place → S) (old new : Held S) (frames : List (ViewId × Frame)) (at_once : WorksAtOnce rules cut old frames new) → Works rules cut old.document at_once.first at_once.mid.document
works_of rules cut old new frames at_once = does_turn rules cut old.document at_once.mid.document (next_work rules old) (Worked at_once.first) at_once.does.0

-- a turn that did a work, with all that it gave out answered: what of it is left
pub record IsAnswered {C B S : Type 0} (rules : Rules C B) (old new : Document S) : Type 0 where
  pub jobs : new.jobs ≡ old.jobs
  pub put : new.saving.put ≡ old.saving.put
  pub less : left_to_do rules new < left_to_do rules old

pub works_answered : {C B S : Type 0} (rules : Rules C B) (cut : C → Place → S) (old new : Held S) (frames : List (ViewId × Frame)) → WorksAtOnce rules cut old frames new → IsHeld rules cut old → IsAnswered rules old.document new.document
works_answered rules cut old new frames at_once kept =
    let less = at_once_lowers rules cut old.document at_once.mid.document new.document at_once.first at_once.later (works_of rules cut old new frames at_once) kept.document
    (steps_of rules cut (all_answered at_once.first) at_once.mid new at_once.later at_once.answered)
    in
    record { jobs = less.0; put = less.1; less = less.2 }

-- a turn that did a work, with all that it gave out answered
works_seated : {C B S : Type 0} (rules : Rules C B) (cut : C → Place → S) (keeps : Keeps rules cut) (seats : Seats) (old new : Held S) (frames : List (ViewId × Frame)) → WorksAtOnce rules cut old frames new → IsSeated rules cut seats old → IsSeated rules cut seats new
works_seated {C} {B} {S} rules cut keeps seats old new frames at_once housed =
    let works : Works rules cut old.document at_once.first at_once.mid.document = works_of rules cut old new frames at_once in
    let answers : IsAnswered rules old.document new.document = works_answered rules cut old new frames at_once housed.kept in
    let run : Segment rules cut at_once.mid.document (all_answered at_once.first) at_once.later new.document = steps_of rules cut (all_answered at_once.first) at_once.mid new at_once.later at_once.answered in
    let ids : ids_of new.document.views ≡ ids_of old.document.views =
    ids-answers rules cut at_once.mid.document new.document at_once.first.jobs at_once.first.errands at_once.later run ∙ ids-works rules cut old.document at_once.mid.document at_once.first works
    in
    record {
      kept = runs_keep rules cut keeps (all_answered at_once.first) at_once.mid new at_once.later at_once.answered (keeps old at_once.mid Turned at_once.first (Worked at_once.first, at_once.does, refl) housed.kept);
      none_out = answers.jobs ∙ housed.none_out;
      none_put = answers.put ∙ housed.none_put;
      linked = subst (AllByRecursion (HasLink seats.views)) (sym ids) housed.linked;
    }

-- a turn of the document
pub turns_housed : {C B S : Type 0} (rules : Rules C B) (cut : C → Place → S) (keeps : Keeps rules cut) (seats : Seats) (old : Option (Held S)) (out : List ℕ) (worked : Bool) (new : Option (Held S))
    → IsHousedBy rules cut seats old → TurnsDocument rules cut seats old out worked new → IsHousedBy rules cut seats new
turns_housed rules cut keeps seats None out worked new housed turns = subst (IsHousedBy rules cut seats) (sym turns.2) tt
turns_housed {C} {B} {S} rules cut keeps seats (Some d) out true new housed turns =
    subst (IsHousedBy rules cut seats) (sym turns.4) (works_seated rules cut keeps seats d turns.0 turns.1 turns.2 housed)
turns_housed rules cut keeps seats (Some d) out false new housed turns = subst (IsHousedBy rules cut seats) (sym turns.2) housed

pub first_housed : {C B S : Type 0} (rules : Rules C B) (cut : C → Place → S) (keeps : Keeps rules cut) (waiting : List Waiting) (old : House S) (out : List ℕ) (rest : List Waiting) (new : House S)
    → IsHoused rules cut old → TakesFirst rules cut waiting old out rest new → IsHoused rules cut new
first_housed rules cut keeps [] old out rest new housed takes = subst (IsHoused rules cut) (sym takes.2) housed
first_housed rules cut keeps (event ∷ events) old out rest new housed takes = takes_housed rules cut keeps event old out new housed takes.1

-- a poll turn
pub poll_housed : {C B S : Type 0} (rules : Rules C B) (cut : C → Place → S) (keeps : Keeps rules cut) (waiting : List Waiting) (old : House S) (out : List ℕ) (worked : Bool) (rest : List Waiting) (new : House S)
    → IsHoused rules cut old → PollTurn rules cut waiting old out worked rest new → IsHoused rules cut new
poll_housed rules cut keeps waiting old out worked rest new housed turn =
    let mid = first_housed rules cut keeps waiting old turn.here rest turn.mid housed turn.takes in
    subst (λ (seats : Seats). IsHousedBy rules cut seats new.document) (sym turn.stays)
    (turns_housed rules cut keeps turn.mid.seats turn.mid.document turn.later turn.turned new.document mid turn.turns)
