-- The transcript through the events that a world takes and the turns of its document.
use Rattle.std.proofs.Common.{◌≡◌, ◌∙◌, ℕ, ◌+◌, Bool, true, false, List, [], ◌∷◌, ◌++◌, length, map, nat_lt, Option, None, Some, inl, inr, refl, sym, ap, subst, append_assoc, length-append}
use Rattle.std.specs.List.{slice_get, AllByRecursion}
use Rattle.std.specs.BTreeMap.{is_at}
use Rattle.std.specs.Ordering.{nat_cmp}
use Rattle.cool_base.specs.declared.ids.ViewId.{ViewId}
use Rattle.cool_frame.specs.declared.frame.Frame.{Frame}
use Rattle.document_laws.specs.AtOnce.{answered, all_answered, stored}
use Rattle.document_machine.specs.Event.{Event, Joined, Left, Said, Turned}
use Rattle.document_machine.specs.Goes.{Moves}
use Rattle.document_machine.specs.Held.{Held, opening_held}
use Rattle.document_machine.specs.Outputs.{nothing, joined}
use Rattle.document_machine.specs.Run.{Run, Segment}
use Rattle.document_machine.specs.State.{Document, Job, find_job}
use Rattle.document_machine.specs.Step.{Step, Works, Paints, JoinsWhere as MachineJoins}
use Rattle.document_machine.specs.declared.limits.TheConstants.{MOST_VIEWS}
use Rattle.document_machine.specs.declared.outs.Outs.{Outs}
use Rattle.document_machine.specs.declared.outs.Turned.TheVariants.{Worked}
use Rattle.document_machine.specs.declared.rights.Rights.{Rights}
use Rattle.document_machine.proofs.Runs.{nothing_last}
use Rattle.kit_trait.specs.Rules.{Rules}
use Rattle.kit_trait.specs.declared.jobs.PaintJob.{PaintJob}
use Rattle.tile_key.specs.Places.{Place}
use Rattle.outside.specs.declared.errands.Errand.{Errand}
use Rattle.script_world.specs.House.{House, rights, JoinsWhere, BeginsWhere, LoadsOne, LoadsWhere, seated, lobby_tells, SaysAs, LeavesAs, TakesOne, TakesFirst, WorksAtOnce, TurnsDocument, PollTurn, ids_of, IsSeated, IsHousedBy, IsHoused}
use Rattle.script_world.specs.Seats.{Seats, view_of, is_waiting, enters, sits, without, tells, records, lobby_frame, bad_file, views_full}
use Rattle.script_world.specs.declared.event.Waiting.{Waiting}
use Rattle.script_world.specs.declared.event.Waiting.TheVariants.{Opened, Loads, Says, Gone}
use Rattle.script_world.proofs.Housed.{Keeps, found_document, housed_at, first_housed, steps_of, works_of}
use Rattle.script_world.proofs.Ids.{HasLink, ids-works, sits_new}
use Rattle.script_laws.specs.Played.{AreSeated}
use Rattle.script_laws.proofs.Views.{all_join, To, AllTo, says_to, works_to, answers_to}
use Rattle.script_laws.proofs.Links.{slice_next, more_seated, sits_seated, gone_seated, no_view}
use Rattle.script_laws.proofs.Held.{IsHeld, Holds, silent, reseated, told, loaded, gave, gave_on}

module _ {C B S : Type 0} (rules : Rules C B) (cut : C → Place → S) where
  -- no step but a joining changes how many views ever joined
  abbrev Next : Document S → ℕ
  Next d = d.next_view

  next-works : (old new : Document S) (outs : Outs S) → Works rules cut old outs new → new.next_view ≡ old.next_view
  next-works old new outs works =
      elim works [
        | inl serves ↦ ap Next serves.new_is
        | inr more ↦ elim more [
          | inl applies ↦ ap Next applies.new_is
          | inr other ↦ elim other [
            | inl sends ↦ ap Next sends.new_is
            | inr cuts ↦ ap Next cuts.new_is
          ]
        ]
      ]

  next-paints : (old new : Document S) (ticket : ℕ) (scene : S) (outs : Outs S) (job : Option (Job S)) → Paints rules old ticket scene outs new job → new.next_view ≡ old.next_view
  next-paints old new ticket scene outs None paint = ap Next paint.1
  next-paints old new ticket scene outs (Some job) paint =
      elim paint [
        | inl other ↦ ap Next other.2
        | inr taken ↦ ap Next taken.2
      ]

  next-stored : (errands : List Errand) (old new : Document S) (outs : Outs S) → Segment rules cut old (map stored errands) outs new → new.next_view ≡ old.next_view
  next-stored [] old new outs run = ap Next run.1
  next-stored (errand ∷ errands) old new outs run = next-stored errands run.0 new run.2 run.4 ∙ ap Next run.3.1

  next-answers : (jobs : List (PaintJob S)) (errands : List Errand) (old new : Document S) (outs : Outs S) → Segment rules cut old (map answered jobs ++ map stored errands) outs new → new.next_view ≡ old.next_view
  next-answers [] errands old new outs run = next-stored errands old new outs run
  next-answers (job ∷ jobs) errands old new outs run =
      next-answers jobs errands run.0 new run.2 run.4 ∙ next-paints old run.0 job.ticket.0 job.scene run.1 (find_job old.jobs job.ticket.0) run.3

  -- one move is a run
  one_move : (old new : Held S) (event : Event S) (outs : Outs S) → Moves rules cut old event outs new → Run (Moves rules cut) old (event ∷ []) outs new
  one_move old new event outs moves = (new, outs, nothing, moves, (refl, refl), sym (nothing_last outs))

  abbrev Kept : List ℕ → House S → Type 0
  Kept out house = Holds rules cut out house

  -- from what was written
  wrote : (before out : List ℕ) (bytes : List ℕ) (old new : House S) → out ≡ bytes → new ≡ old → Kept (before ++ bytes) old → Kept (before ++ out) new
  wrote before out bytes old new is same held =
      subst (λ (x : List ℕ). Kept (before ++ x) new) (sym is) (subst (Kept (before ++ bytes)) (sym same) held)

  -- a view joins
  join_goes : (before : List ℕ) (seats : Seats) (link : ℕ) (given : Rights) (old new : Held S) (outs : Outs S) (b : Bool)
      → nat_lt (length old.document.views) MOST_VIEWS ≡ b → b ≡ true → view_of seats link ≡ None → Moves rules cut old (Joined given) outs new
      → IsHeld rules cut before seats (Some old) → IsHeld rules cut (before ++ records (sits seats link old.document.next_view) outs.frames) (sits seats link old.document.next_view) (Some new)
  join_goes before seats link given old new outs b room is none moves held =
      let d : Document S = old.document in
      let e : Document S = new.document in
      let joins : MachineJoins true rules d given outs e = subst (λ (x : Bool). MachineJoins x rules d given outs e) (room ∙ is) moves.0 in
      let now : Seats = sits seats link d.next_view in
      let links : List ℕ = held.links in
      let begun : length links ≡ d.next_view = held.begun in
      let to : AllTo (HasLink now.views) outs.frames = subst (λ (o : Outs S). AllTo (HasLink now.views) o.frames) (sym joins.0) (sits_new seats.views link d.next_view, tt) in
      let seated : AreSeated (links ++ link ∷ []) now.views =
      sits_seated (links ++ link ∷ []) seats.views link d.next_view none (more_seated links (link ∷ []) seats.views held.seated)
      (subst (λ (n : ℕ). slice_get (links ++ link ∷ []) n ≡ Some link) begun (slice_next links link)) in
      let count : length (links ++ link ∷ []) ≡ e.next_view = length-append links (link ∷ []) ∙ ap (λ (n : ℕ). n + 1) begun ∙ sym (ap Next joins.1) in
      gave rules cut before seats now old new (Joined given ∷ []) outs (link ∷ []) held (one_move old new (Joined given) outs moves) to seated count

  -- a load
  joins_held : (before : List ℕ) (seats : Seats) (link : ℕ) (given : Rights) (d : Held S) (out : List ℕ) (new : House S) (b : Bool)
      → nat_lt (length d.document.views) MOST_VIEWS ≡ b → view_of seats link ≡ None → IsHeld rules cut before seats (Some d) → JoinsWhere b rules cut seats link given d out new → Kept (before ++ out) new
  joins_held before seats link given d out new true room none held joins =
      let now : Seats = sits seats link d.document.next_view in
      wrote before out (records now joins.1.frames) (record { seats = now; document = Some joins.0 }) new joins.4 joins.3
      (join_goes before seats link given d joins.0 joins.1 true room refl none joins.2 held)
  joins_held before seats link given d out new false room none held joins =
      wrote before out (tells link views_full) (record { seats = seats; document = Some d }) new joins.0 joins.1
      (told rules cut before seats (Some d) link views_full (inr (inr refl)) held)

  begins_held : (before : List ℕ) (seats : Seats) (link : ℕ) (file : List ℕ) (given : Rights) (out : List ℕ) (new : House S) (b : Bool)
      → rules.accepts [] ≡ b → view_of seats link ≡ None → IsHeld rules cut before seats None → BeginsWhere b rules cut seats link file given out new → Kept (before ++ out) new
  begins_held before seats link file given out new true accepted none held begins =
      joins_held before seats link given (opening_held file []) out new true refl none (loaded rules cut before seats file accepted held) begins
  begins_held before seats link file given out new false accepted none held begins =
      wrote before out (tells link bad_file) (record { seats = seats; document = None }) new begins.0 begins.1
      (told rules cut before seats None link bad_file (inr (inl refl)) held)

  loads_held : (before : List ℕ) (seats : Seats) (document : Option (Held S)) (link : ℕ) (file : List ℕ) (given : Rights) (out : List ℕ) (new : House S)
      → view_of seats link ≡ None → IsHeld rules cut before seats document → LoadsOne rules cut seats document link file given out new → Kept (before ++ out) new
  loads_held before seats None link file given out new none held loads = begins_held before seats link file given out new (rules.accepts []) refl none held loads
  loads_held before seats (Some d) link file given out new none held loads = joins_held before seats link given d out new (nat_lt (length d.document.views) MOST_VIEWS) refl none held loads

  load_held : (before : List ℕ) (old : House S) (link : ℕ) (file : List ℕ) (given : Rights) (out : List ℕ) (new : House S) (b : Bool)
      → is_waiting old.seats link ≡ b → Kept before old → LoadsWhere b rules cut old link file given out new → Kept (before ++ out) new
  load_held before old link file given out new true waits held loads = loads_held before old.seats old.document link file given out new (no_view old.seats link waits) held loads
  load_held before old link file given out new false waits held loads = wrote before out [] old new loads.0 loads.1 (silent rules cut before old.seats old.document held)

  -- a message
  lobby_held : (before : List ℕ) (old : House S) (link : ℕ) (text out : List ℕ) (b : Bool) → out ≡ lobby_tells b link text → Kept before old → Kept (before ++ out) old
  lobby_held before old link text out true is held =
      wrote before out (tells link (lobby_frame text)) old old is refl (told rules cut before old.seats old.document link (lobby_frame text) (inl (text, refl)) held)
  lobby_held before old link text out false is held = wrote before out [] old old is refl (silent rules cut before old.seats old.document held)

  says_held : (before : List ℕ) (old : House S) (link : ℕ) (text : List ℕ) (found : Option (Held S × ℕ)) (out : List ℕ) (new : House S)
      → seated old link ≡ found → IsHoused rules cut old → Kept before old → SaysAs rules cut old link text found out new → Kept (before ++ out) new
  says_held before old link text None out new is housed held says =
      subst (Kept (before ++ out)) (sym says.1) (lobby_held before old link text out (is_waiting old.seats link) says.0 held)
  says_held before old link text (Some seat) out new is housed held says =
      let there : old.document ≡ Some seat.0 = (found_document old.document (view_of old.seats link) seat is).0 in
      let home : IsSeated rules cut old.seats seat.0 = housed_at rules cut old.seats old.document seat.0 there housed in
      let step : Step rules cut seat.0.document (Said seat.1 text) says.1 says.0.document = says.2.0 in
      let same : says.0.document.next_view ≡ seat.0.document.next_view = ap Next step.new_is in
      let to : AllTo (HasLink old.seats.views) says.1.frames = says_to rules cut (HasLink old.seats.views) seat.0.document says.0.document seat.1 text says.1 step home.linked in
      wrote before out (records old.seats says.1.frames) (record old { document = Some says.0 }) new says.4 says.3
      (gave_on rules cut before old.seats seat.0 says.0 (Said seat.1 text ∷ []) says.1 (subst (IsHeld rules cut before old.seats) there held) (one_move seat.0 says.0 (Said seat.1 text) says.1 says.2) to same)

  -- a link is gone
  leaves_held : (before : List ℕ) (old : House S) (link : ℕ) (found : Option (Held S × ℕ)) (out : List ℕ) (new : House S)
      → seated old link ≡ found → Kept before old → LeavesAs rules cut old link found out new → Kept (before ++ out) new
  leaves_held before old link None out new is held leaves =
      wrote before out [] (record old { seats = without old.seats link }) new leaves.0 leaves.1
      (silent rules cut before (without old.seats link) old.document (reseated rules cut before old.seats (without old.seats link) old.document held (gone_seated held.links (is_at (nat_cmp link)) old.seats.views held.seated)))
  leaves_held before old link (Some seat) out new is held leaves =
      let there : old.document ≡ Some seat.0 = (found_document old.document (view_of old.seats link) seat is).0 in
      let at : IsHeld rules cut before old.seats (Some seat.0) = subst (IsHeld rules cut before old.seats) there held in
      let step : Step rules cut seat.0.document (Left seat.1) nothing leaves.0.document = leaves.1.0 in
      let gone : IsHeld rules cut (before ++ []) old.seats (Some leaves.0) = gave_on rules cut before old.seats seat.0 leaves.0 (Left seat.1 ∷ []) nothing at (one_move seat.0 leaves.0 (Left seat.1) nothing leaves.1) tt (ap Next step.1) in
      wrote before out [] (record { seats = without old.seats link; document = Some leaves.0 }) new leaves.2 leaves.3
      (reseated rules cut (before ++ []) old.seats (without old.seats link) (Some leaves.0) gone (gone_seated gone.links (is_at (nat_cmp link)) old.seats.views gone.seated))

  -- an event
  takes_held : (before : List ℕ) (event : Waiting) (old : House S) (out : List ℕ) (new : House S) → IsHoused rules cut old → Kept before old → TakesOne rules cut event old out new → Kept (before ++ out) new
  takes_held before (Opened link) old out new housed held takes =
      wrote before out [] (record old { seats = enters old.seats link }) new takes.0 takes.1
      (silent rules cut before (enters old.seats link) old.document (reseated rules cut before old.seats (enters old.seats link) old.document held held.seated))
  takes_held before (Loads link file writes) old out new housed held takes = load_held before old link file (rights writes) out new (is_waiting old.seats link) refl held takes
  takes_held before (Says link text) old out new housed held takes = says_held before old link text (seated old link) out new refl housed held takes
  takes_held before (Gone link) old out new housed held takes = leaves_held before old link (seated old link) out new refl held takes

  pub first_held : (before : List ℕ) (waiting : List Waiting) (old : House S) (out : List ℕ) (rest : List Waiting) (new : House S) → IsHoused rules cut old → Kept before old → TakesFirst rules cut waiting old out rest new → Kept (before ++ out) new
  first_held before [] old out rest new housed held takes = wrote before out [] old new takes.1 takes.2 (silent rules cut before old.seats old.document held)
  first_held before (event ∷ events) old out rest new housed held takes = takes_held before event old out new housed held takes.1

  -- a turn that did a work, with all that it gave out answered
  works_held : (before : List ℕ) (seats : Seats) (old new : Held S) (frames : List (ViewId × Frame)) → IsSeated rules cut seats old → IsHeld rules cut before seats (Some old) → WorksAtOnce rules cut old frames new
      → IsHeld rules cut (before ++ records seats frames) seats (Some new)
  works_held before seats old new frames home held works =
      let d : Document S = old.document in
      let mid : Document S = works.mid.document in
      let e : Document S = new.document in
      let outs : Outs S = joined works.first works.later in
      let done : Works rules cut d works.first mid = works_of rules cut old new frames works in
      let run : Run (Moves rules cut) old (Turned ∷ all_answered works.first) outs new = (works.mid, works.first, works.later, (Worked works.first, works.does, refl), works.answered, refl) in
      let steps : Segment rules cut mid (all_answered works.first) works.later e = steps_of rules cut (all_answered works.first) works.mid new works.later works.answered in
      let ids : ids_of mid.views ≡ ids_of d.views = ids-works rules cut d mid works.first done in
      let here : AllTo (HasLink seats.views) works.first.frames = works_to rules cut (HasLink seats.views) d mid works.first done home.linked in
      let rest : AllTo (HasLink seats.views) works.later.frames =
      answers_to rules cut (HasLink seats.views) works.first.jobs works.first.errands mid e works.later steps (subst (AllByRecursion (HasLink seats.views)) (sym ids) home.linked) in
      let to : AllTo (HasLink seats.views) outs.frames = all_join (To (HasLink seats.views)) works.first.frames works.later.frames here rest in
      let same : e.next_view ≡ d.next_view = next-answers works.first.jobs works.first.errands mid e works.later steps ∙ next-works d mid works.first done in
      subst (λ (x : List (ViewId × Frame)). IsHeld rules cut (before ++ records seats x) seats (Some new)) (sym works.frames_are)
      (gave_on rules cut before seats old new (Turned ∷ all_answered works.first) outs held run to same)

  -- a turn of the document
  pub turns_held : (before : List ℕ) (seats : Seats) (old : Option (Held S)) (out : List ℕ) (worked : Bool) (new : Option (Held S)) → IsHousedBy rules cut seats old → IsHeld rules cut before seats old → TurnsDocument rules cut seats old out worked new → IsHeld rules cut (before ++ out) seats new
  turns_held before seats None out worked new housed held turns =
      wrote before out [] (record { seats = seats; document = None }) (record { seats = seats; document = new }) turns.0 (ap (λ (d : Option (Held S)). record { seats = seats; document = d }) turns.2)
      (silent rules cut before seats None held)
  turns_held before seats (Some d) out true new housed held turns =
      wrote before out (records seats turns.1) (record { seats = seats; document = Some turns.0 }) (record { seats = seats; document = new }) turns.3 (ap (λ (x : Option (Held S)). record { seats = seats; document = x }) turns.4)
      (works_held before seats d turns.0 turns.1 housed held turns.2)
  turns_held before seats (Some d) out false new housed held turns =
      wrote before out [] (record { seats = seats; document = Some d }) (record { seats = seats; document = new }) turns.0 (ap (λ (x : Option (Held S)). record { seats = seats; document = x }) turns.2)
      (silent rules cut before seats (Some d) held)

  -- a poll turn
  pub poll_held : (keeps : Keeps rules cut) (before : List ℕ) (waiting : List Waiting) (old : House S) (out : List ℕ) (worked : Bool) (rest : List Waiting) (new : House S)
      → IsHoused rules cut old → Kept before old → PollTurn rules cut waiting old out worked rest new → Kept (before ++ out) new
  poll_held keeps before waiting old out worked rest new housed held turn =
      let home : IsHoused rules cut turn.mid = first_housed rules cut keeps waiting old turn.here rest turn.mid housed turn.takes in
      let mid : Kept (before ++ turn.here) turn.mid = first_held before waiting old turn.here rest turn.mid housed held turn.takes in
      let end : IsHeld rules cut ((before ++ turn.here) ++ turn.later) turn.mid.seats new.document = turns_held (before ++ turn.here) turn.mid.seats turn.mid.document turn.later turn.turned new.document home mid turn.turns in
      let bytes : (before ++ turn.here) ++ turn.later ≡ before ++ out = append_assoc before turn.here turn.later ∙ ap (λ (x : List ℕ). before ++ x) (sym turn.is) in
      subst (λ (x : List ℕ). IsHeld rules cut x new.seats new.document) bytes
      (subst (λ (x : Seats). IsHeld rules cut ((before ++ turn.here) ++ turn.later) x new.document) (sym turn.stays) end)
