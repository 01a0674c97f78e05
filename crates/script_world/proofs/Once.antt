-- What follows is one: from a house that keeps to its rules a poll turn, a move, and all that settles it write one
-- thing and lead to one house.
use Rattle.std.proofs.Common.{◌≡◌, ◌∙◌, ◌⊎◌, ℕ, zero, suc, ◌+◌, ◌<◌, Bool, true, false, ◌||◌, List, [], ◌∷◌, ◌++◌, length, map, nat_lt, Option, None, Some, inl, inr, refl, ap, sym, subst, arith}
use Rattle.std.specs.List.{AllByRecursion}
use Rattle.cool_base.specs.declared.ids.ViewId.{ViewId}
use Rattle.cool_frame.specs.declared.frame.Frame.{Frame}
use Rattle.document_laws.specs.AtOnce.{answered, all_answered, stored}
use Rattle.document_laws.proofs.Views.{found_view}
use Rattle.document_machine.specs.Due.{sent, tile_frame}
use Rattle.document_machine.specs.Event.{Event, Painted}
use Rattle.document_machine.specs.Goes.{DoesNext, Moves as MachineMoves, next_work}
use Rattle.document_machine.specs.Held.{Held, KeepsPainted, KeptTile, current_version, opening_held}
use Rattle.document_machine.specs.Message.{effect, reply, heard}
use Rattle.document_machine.specs.Next.{Work, Serve, Apply, Send, Cut, Rest}
use Rattle.document_machine.specs.Outputs.{frames_only, joined}
use Rattle.document_machine.specs.Run.{Run}
use Rattle.document_machine.specs.State.{View, Job, Document, find_view, with_view, find_job}
use Rattle.send_window.specs.Tiles.{Sent}
use Rattle.document_machine.specs.Step.{Does, Sends, Rests, Cuts, Paints, Says as MachineSays, JoinsWhere as MachineJoins, told, given}
use Rattle.document_machine.specs.declared.limits.TheConstants.{MOST_VIEWS}
use Rattle.document_machine.specs.declared.outs.Outs.{Outs}
use Rattle.document_machine.specs.declared.outs.Turned.TheVariants.{Worked}
use Rattle.document_machine.specs.declared.rights.Rights.{Rights}
use Rattle.kit_trait.specs.Rules.{Rules, doc}
use Rattle.kit_trait.specs.declared.jobs.PaintJob.{PaintJob}
use Rattle.kit_trait.specs.declared.values.Input.{Input}
use Rattle.outside.specs.declared.errands.Errand.{Errand}
use Rattle.tile_key.specs.Places.{Place, place_of_keys}
use Rattle.script_world.specs.House.{House, rights, JoinsWhere, BeginsWhere, LoadsOne, LoadsWhere, seated, SaysAs, LeavesAs, TakesOne, TakesFirst, WorksAtOnce, TurnsDocument, PollTurn, wids_of, says_processed, acknowledgements_by, acknowledgements, IsHousedBy, IsHoused}
use Rattle.script_world.specs.Seats.{Seats, is_waiting, sits, without, records}
use Rattle.script_world.specs.World.{Seen, Move, Turn, Acknowledge, Moves, Chain, turns, RestsNow, IsIdle, Turned, Settled, IsAtRest}
use Rattle.script_world.specs.declared.event.Waiting.{Waiting}
use Rattle.script_world.specs.declared.event.Waiting.TheVariants.{Opened, Loads, Says, Gone}
use Rattle.script_world.proofs.Housed.{Keeps, first_housed, poll_housed}
use Rattle.script_world.proofs.Resting.{none_next}

module _ {C B S : Type 0} (rules : Rules C B) (cut : C → Place → S) where
  -- the one job of these keys that a turn may cut
  abbrev job_now : Document S → List Place → Job S
  job_now old keys = record {
    ticket = old.next_ticket;
    number = old.applied;
    keys = keys;
    area = place_of_keys keys;
    scene = cut (doc rules old.base old.journal old.applied) (place_of_keys keys);
  }

  same_job : (old : Document S) (keys : List Place) (job : Job S) → job.ticket ≡ old.next_ticket → job.number ≡ old.applied → job.keys ≡ keys → job.area ≡ place_of_keys job.keys
      → job.scene ≡ cut (doc rules old.base old.journal old.applied) job.area → job ≡ job_now old keys
  same_job old keys job ticket number keys_are area scene =
      let here : job.area ≡ place_of_keys keys = area ∙ ap place_of_keys keys_are in
      let shows : job.scene ≡ (job_now old keys).scene = scene ∙ ap (cut (doc rules old.base old.journal old.applied)) here in
      ap (λ (n : ℕ). record job { ticket = n }) ticket
      ∙ ap (λ (n : ℕ). record job { ticket = old.next_ticket; number = n }) number
      ∙ ap (λ (ks : List Place). record job { ticket = old.next_ticket; number = old.applied; keys = ks }) keys_are
      ∙ ap (λ (place : Place). record job { ticket = old.next_ticket; number = old.applied; keys = keys; area = place }) here
      ∙ ap (λ (s : S). record (job_now old keys) { scene = s }) shows

  cuts_once : (old new : Document S) (outs : Outs S) (keys : List Place) (cuts : Cuts rules cut old outs new) → cuts.job.keys ≡ keys
      → (outs ≡ record { frames = []; jobs = given (job_now old keys) ∷ []; errands = [] })
      × (new ≡ record old { jobs = old.jobs ++ job_now old keys ∷ []; next_ticket = old.next_ticket + 1 })
  cuts_once old new outs keys cuts are =
      let same = same_job old keys cuts.job cuts.ticket_is cuts.number_is are cuts.area_is cuts.scene_is in (
        cuts.outs_are ∙ ap (λ (j : Job S). record { frames = []; jobs = given j ∷ []; errands = [] }) same,
        cuts.new_is ∙ ap (λ (j : Job S). record old { jobs = old.jobs ++ j ∷ []; next_ticket = old.next_ticket + 1 }) same,
      )

  -- a tile of the key in this version goes to the view with the id
  sends_once : (old new : Document S) (outs : Outs S) (id : ℕ) (key : Place) (version : ℕ) (view : View) (sends : Sends rules old outs new) → sends.view.id ≡ id → sends.key ≡ key → sends.version ≡ version → find_view old.views id ≡ Some view
      → (outs ≡ frames_only (tile_frame rules old version key view ∷ []))
      × (new ≡ record old { views = with_view old.views id (sent rules old version key) })
  sends_once old new outs id key version view sends is_id is_key is_version live =
      let some : Some sends.view ≡ Some view = sym sends.live ∙ ap (find_view old.views) is_id ∙ live in
      let same : sends.view ≡ view = cc in (
        sends.outs_are ∙ ap (λ (v : View). frames_only (tile_frame rules old sends.version sends.key v ∷ [])) same
            ∙ ap (λ (n : ℕ). frames_only (tile_frame rules old n sends.key view ∷ [])) is_version
            ∙ ap (λ (k : Place). frames_only (tile_frame rules old version k view ∷ [])) is_key,
        sends.new_is ∙ ap (λ (n : ℕ). record old { views = with_view old.views n (sent rules old sends.version sends.key) }) is_id
            ∙ ap (λ (n : ℕ). record old { views = with_view old.views id (sent rules old n sends.key) }) is_version
            ∙ ap (λ (k : Place). record old { views = with_view old.views id (sent rules old version k) }) is_key,
      )

  -- what one work gives out, and the document after it
  does_once : (work : Work) (old new other : Document S) (outs others : Outs S) → Does rules cut old work (Worked outs) new → Does rules cut old work (Worked others) other → (outs ≡ others) × (new ≡ other)
  does_once Serve old new other outs others a b = (a.outs_are ∙ sym b.outs_are, a.new_is ∙ sym b.new_is)
  does_once Apply old new other outs others a b =
      let some : Some a.input ≡ Some b.input = sym a.behind ∙ b.behind in
      let same : a.input ≡ b.input = cc in (
        a.outs_are ∙ ap (λ (input : Input). frames_only (told old.views (rules.hurt (doc rules old.base old.journal old.applied) input))) same ∙ sym b.outs_are,
        a.new_is ∙ sym b.new_is,
      )
  does_once (Send id key version) old new other outs others a b =
      let live : find_view old.views id ≡ Some a.0.view = ap (find_view old.views) (sym a.1) ∙ a.0.live in
      let one = sends_once old new outs id key version a.0.view a.0 a.1 a.2 a.3 live in
      let two = sends_once old other others id key version a.0.view b.0 b.1 b.2 b.3 live in
      (one.0 ∙ sym two.0, one.1 ∙ sym two.1)
  does_once (Cut id keys) old new other outs others a b =
      let one = cuts_once old new outs keys a.0 a.1 in
      let two = cuts_once old other others keys b.0 b.1 in
      (one.0 ∙ sym two.0, one.1 ∙ sym two.1)
  does_once Rest old new other outs others a b = absurd a

  -- a painted result, and the answers to some jobs
  paints_once : (old new other : Document S) (ticket : ℕ) (scene : S) (outs others : Outs S) (job : Option (Job S)) → Paints rules old ticket scene outs new job → Paints rules old ticket scene others other job → (outs ≡ others) × (new ≡ other)
  paints_once old new other ticket scene outs others None a b = (a.0 ∙ sym b.0, a.1 ∙ sym b.1)
  paints_once old new other ticket scene outs others (Some job) a b =
      elim a [
        | inl x ↦ elim b [ inl y ↦ (x.1 ∙ sym y.1, x.2 ∙ sym y.2) | inr y ↦ absurd (x.0 y.0) ]
        | inr x ↦ elim b [ inl y ↦ absurd (y.0 x.0) | inr y ↦ (x.1 ∙ sym y.1, x.2 ∙ sym y.2) ]
      ]

  same_held : (a b : Held S) → a.document ≡ b.document → a.kept ≡ b.kept → a ≡ b
  same_held a b document kept =
      ap (λ (d : Document S). record { document = d; kept = a.kept }) document ∙ ap (λ (tiles : List KeptTile). record { document = b.document; kept = tiles }) kept

  keeps_once : (old : Held S) (scene : S) (tiles more : List KeptTile) (job : Option (Job S)) → KeepsPainted rules old scene tiles job → KeepsPainted rules old scene more job → tiles ≡ more
  keeps_once old scene tiles more None a b = a ∙ sym b
  keeps_once old scene tiles more (Some job) a b =
      elim a [
        | inl x ↦ elim b [ inl y ↦ x.1 ∙ sym y.1 | inr y ↦ absurd (x.0 y.0) ]
        | inr x ↦ elim b [ inl y ↦ absurd (y.0 x.0) | inr y ↦ x.1 ∙ sym y.1 ]
      ]

  -- a job that comes back, and an errand that is answered
  painted_once : (old new other : Held S) (ticket : ℕ) (scene : S) (outs others : Outs S) → MachineMoves rules cut old (Painted ticket scene) outs new → MachineMoves rules cut old (Painted ticket scene) others other → (outs ≡ others) × (new ≡ other)
  painted_once old new other ticket scene outs others a b =
      let job : Option (Job S) = find_job old.document.jobs ticket in
      let same = paints_once old.document new.document other.document ticket scene outs others job a.0 b.0 in
      (same.0, same_held new other same.1 (keeps_once old scene new.kept other.kept job a.1 b.1))

  stored_once : (old new other : Held S) (errand : Errand) (outs others : Outs S) → MachineMoves rules cut old (stored errand) outs new → MachineMoves rules cut old (stored errand) others other → (outs ≡ others) × (new ≡ other)
  stored_once old new other errand outs others a b = (a.0.0 ∙ sym b.0.0, same_held new other (a.0.1 ∙ sym b.0.1) (a.1 ∙ sym b.1))

  -- one event, and then the others
  runs_once : (event : Event S) (events : List (Event S)) (old new other : Held S) (outs others : Outs S)
      → ((mid too : Held S) (here there : Outs S) → MachineMoves rules cut old event here mid → MachineMoves rules cut old event there too → (here ≡ there) × (mid ≡ too))
      → ((mid : Held S) (later more : Outs S) → Run (MachineMoves rules cut) mid events later new → Run (MachineMoves rules cut) mid events more other → (later ≡ more) × (new ≡ other))
      → Run (MachineMoves rules cut) old (event ∷ events) outs new → Run (MachineMoves rules cut) old (event ∷ events) others other → (outs ≡ others) × (new ≡ other)
  runs_once event events old new other outs others one rest a b =
      let same = one a.0 b.0 a.1 b.1 a.3 b.3 in
      let run : Run (MachineMoves rules cut) a.0 events b.2 other = subst (λ (x : Held S). Run (MachineMoves rules cut) x events b.2 other) (sym same.1) b.4 in
      let more = rest a.0 a.2 b.2 a.4 run in
      (a.5 ∙ ap (λ (o : Outs S). joined o a.2) same.0 ∙ ap (λ (o : Outs S). joined b.1 o) more.0 ∙ sym b.5, more.1)

  stores_once : (errands : List Errand) (old new other : Held S) (outs others : Outs S) → Run (MachineMoves rules cut) old (map stored errands) outs new → Run (MachineMoves rules cut) old (map stored errands) others other → (outs ≡ others) × (new ≡ other)
  stores_once [] old new other outs others a b = (a.0 ∙ sym b.0, a.1 ∙ sym b.1)
  stores_once (errand ∷ errands) old new other outs others a b =
      runs_once (stored errand) (map stored errands) old new other outs others
      (λ mid too here there one two. stored_once old mid too errand here there one two)
      (λ mid later more one two. stores_once errands mid new other later more one two) a b

  answers_once : (jobs : List (PaintJob S)) (errands : List Errand) (old new other : Held S) (outs others : Outs S)
      → Run (MachineMoves rules cut) old (map answered jobs ++ map stored errands) outs new → Run (MachineMoves rules cut) old (map answered jobs ++ map stored errands) others other → (outs ≡ others) × (new ≡ other)
  answers_once [] errands old new other outs others a b = stores_once errands old new other outs others a b
  answers_once (job ∷ jobs) errands old new other outs others a b =
      runs_once (answered job) (map answered jobs ++ map stored errands) old new other outs others
      (λ mid too here there one two. painted_once old mid too job.ticket.0 job.scene here there one two)
      (λ mid later more one two. answers_once jobs errands mid new other later more one two) a b

  -- the work that is next
  next_once : (old new other : Held S) (outs others : Outs S) → DoesNext rules cut old (Worked outs) new → DoesNext rules cut old (Worked others) other → (outs ≡ others) × (new ≡ other)
  next_once old new other outs others a b =
      let same = does_once (next_work rules old) old.document new.document other.document outs others a.0 b.0 in
      (same.0, same_held new other same.1 (a.1 ∙ sym b.1))

  works_once : (old new other : Held S) (frames others : List (ViewId × Frame)) → WorksAtOnce rules cut old frames new → WorksAtOnce rules cut old others other → (frames ≡ others) × (new ≡ other)
  works_once old new other frames others a b =
      let one = next_once old a.mid b.mid a.first b.first a.does b.does in
      let at : Run (MachineMoves rules cut) a.mid (all_answered b.first) b.later other = subst (λ (x : Held S). Run (MachineMoves rules cut) x (all_answered b.first) b.later other) (sym one.1) b.answered in
      let run : Run (MachineMoves rules cut) a.mid (all_answered a.first) b.later other = subst (λ (o : Outs S). Run (MachineMoves rules cut) a.mid (all_answered o) b.later other) (sym one.0) at in
      let more = answers_once a.first.jobs a.first.errands a.mid new other a.later b.later a.answered run in (
        a.frames_are ∙ ap (λ (o : Outs S). o.frames ++ a.later.frames) one.0 ∙ ap (λ (o : Outs S). b.first.frames ++ o.frames) more.0 ∙ sym b.frames_are,
        more.1,
      )

  -- a turn that does a work isn't one with nothing to do
  work_or_rest : (old new : Held S) (frames : List (ViewId × Frame)) → old.document.jobs ≡ [] → WorksAtOnce rules cut old frames new → Rests rules old.document → ⊥
  work_or_rest old new frames free work rests =
      let is : next_work rules old ≡ Rest = none_next rules (current_version rules old) old.document free rests in
      subst (λ (w : Work). Does rules cut old.document w (Worked work.first) work.mid.document) is work.does.0

  -- a turn of the document
  document_once : (seats : Seats) (old : Option (Held S)) (out others : List ℕ) (worked too : Bool) (new other : Option (Held S))
      → IsHousedBy rules cut seats old → TurnsDocument rules cut seats old out worked new → TurnsDocument rules cut seats old others too other
      → (out ≡ others) × (worked ≡ too) × (new ≡ other)
  document_once seats None out others worked too new other housed a b = (a.0 ∙ sym b.0, a.1 ∙ sym b.1, a.2 ∙ sym b.2)
  document_once seats (Some d) out others true true new other housed a b =
      let same = works_once d a.0 b.0 a.1 b.1 a.2 b.2 in
      (a.3 ∙ ap (records seats) same.0 ∙ sym b.3, refl, a.4 ∙ ap Some same.1 ∙ sym b.4)
  document_once seats (Some d) out others true false new other housed a b = absurd (work_or_rest d a.0 a.1 housed.none_out a.2 b.1)
  document_once seats (Some d) out others false true new other housed a b = absurd (work_or_rest d b.0 b.1 housed.none_out b.2 a.1)
  document_once seats (Some d) out others false false new other housed a b = (a.0 ∙ sym b.0, refl, a.2 ∙ sym b.2)

  -- an event
  machine_joins_once : (b : Bool) (old new other : Document S) (given : Rights) (outs others : Outs S) → MachineJoins b rules old given outs new → MachineJoins b rules old given others other → (outs ≡ others) × (new ≡ other)
  machine_joins_once true old new other given outs others a b = (a.0 ∙ sym b.0, a.1 ∙ sym b.1)
  machine_joins_once false old new other given outs others a b = (a.0 ∙ sym b.0, a.1 ∙ sym b.1)

  joins_once : (b : Bool) (seats : Seats) (link : ℕ) (given : Rights) (old : Held S) (out others : List ℕ) (new other : House S)
      → JoinsWhere b rules cut seats link given old out new → JoinsWhere b rules cut seats link given old others other → (out ≡ others) × (new ≡ other)
  joins_once true seats link given old out others new other a b =
      let same = machine_joins_once (nat_lt (length old.document.views) MOST_VIEWS) old.document a.0.document b.0.document given a.1 b.1 a.2.0 b.2.0 in
      let held : a.0 ≡ b.0 = same_held a.0 b.0 same.1 (a.2.1 ∙ sym b.2.1) in (
        a.4 ∙ ap (λ (o : Outs S). records (sits seats link old.document.next_view) o.frames) same.0 ∙ sym b.4,
        a.3 ∙ ap (λ (x : Held S). record { seats = sits seats link old.document.next_view; document = Some x }) held ∙ sym b.3,
      )
  joins_once false seats link given old out others new other a b = (a.0 ∙ sym b.0, a.1 ∙ sym b.1)

  begins_once : (b : Bool) (seats : Seats) (link : ℕ) (file : List ℕ) (given : Rights) (out others : List ℕ) (new other : House S)
      → BeginsWhere b rules cut seats link file given out new → BeginsWhere b rules cut seats link file given others other → (out ≡ others) × (new ≡ other)
  begins_once true seats link file given out others new other a b = joins_once true seats link given (opening_held file []) out others new other a b
  begins_once false seats link file given out others new other a b = (a.0 ∙ sym b.0, a.1 ∙ sym b.1)

  loads_once : (document : Option (Held S)) (seats : Seats) (link : ℕ) (file : List ℕ) (given : Rights) (out others : List ℕ) (new other : House S)
      → LoadsOne rules cut seats document link file given out new → LoadsOne rules cut seats document link file given others other → (out ≡ others) × (new ≡ other)
  loads_once None seats link file given out others new other a b = begins_once (rules.accepts []) seats link file given out others new other a b
  loads_once (Some d) seats link file given out others new other a b = joins_once (nat_lt (length d.document.views) MOST_VIEWS) seats link given d out others new other a b

  load_once : (b : Bool) (old : House S) (link : ℕ) (file : List ℕ) (given : Rights) (out others : List ℕ) (new other : House S)
      → LoadsWhere b rules cut old link file given out new → LoadsWhere b rules cut old link file given others other → (out ≡ others) × (new ≡ other)
  load_once true old link file given out others new other a b = loads_once old.document old.seats link file given out others new other a b
  load_once false old link file given out others new other a b = (a.0 ∙ sym b.0, a.1 ∙ sym b.1)

  machine_says_once : (old new other : Document S) (id : ℕ) (text : List ℕ) (outs others : Outs S) → MachineSays rules old id text outs new → MachineSays rules old id text others other → (outs ≡ others) × (new ≡ other)
  machine_says_once old new other id text outs others a b =
      let some : Some a.view ≡ Some b.view = sym a.live ∙ b.live in
      let same : a.view ≡ b.view = cc in (
        a.outs_are ∙ ap (λ (v : View). reply id (effect rules old v text)) same ∙ sym b.outs_are,
        a.new_is ∙ ap (λ (v : View). heard old id (effect rules old v text)) same ∙ sym b.new_is,
      )

  says_once : (old : House S) (link : ℕ) (text : List ℕ) (found : Option (Held S × ℕ)) (out others : List ℕ) (new other : House S)
      → SaysAs rules cut old link text found out new → SaysAs rules cut old link text found others other → (out ≡ others) × (new ≡ other)
  says_once old link text None out others new other a b = (a.0 ∙ sym b.0, a.1 ∙ sym b.1)
  says_once old link text (Some seat) out others new other a b =
      let same = machine_says_once seat.0.document a.0.document b.0.document seat.1 text a.1 b.1 a.2.0 b.2.0 in
      let held : a.0 ≡ b.0 = same_held a.0 b.0 same.1 (a.2.1 ∙ sym b.2.1) in (
        a.4 ∙ ap (λ (o : Outs S). records old.seats o.frames) same.0 ∙ sym b.4,
        a.3 ∙ ap (λ (x : Held S). record old { document = Some x }) held ∙ sym b.3,
      )

  leaves_once : (old : House S) (link : ℕ) (found : Option (Held S × ℕ)) (out others : List ℕ) (new other : House S)
      → LeavesAs rules cut old link found out new → LeavesAs rules cut old link found others other → (out ≡ others) × (new ≡ other)
  leaves_once old link None out others new other a b = (a.0 ∙ sym b.0, a.1 ∙ sym b.1)
  leaves_once old link (Some seat) out others new other a b =
      let same : a.0 ≡ b.0 = same_held a.0 b.0 (a.1.0.1 ∙ sym b.1.0.1) (a.1.1 ∙ sym b.1.1) in
      (a.2 ∙ sym b.2, a.3 ∙ ap (λ (x : Held S). record { seats = without old.seats link; document = Some x }) same ∙ sym b.3)

  takes_once : (event : Waiting) (old : House S) (out others : List ℕ) (new other : House S)
      → TakesOne rules cut event old out new → TakesOne rules cut event old others other → (out ≡ others) × (new ≡ other)
  takes_once (Opened link) old out others new other a b = (a.0 ∙ sym b.0, a.1 ∙ sym b.1)
  takes_once (Loads link file writes) old out others new other a b = load_once (is_waiting old.seats link) old link file (rights writes) out others new other a b
  takes_once (Says link text) old out others new other a b = says_once old link text (seated old link) out others new other a b
  takes_once (Gone link) old out others new other a b = leaves_once old link (seated old link) out others new other a b

  first_once : (waiting : List Waiting) (old : House S) (out others : List ℕ) (rest more : List Waiting) (new other : House S)
      → TakesFirst rules cut waiting old out rest new → TakesFirst rules cut waiting old others more other → (out ≡ others) × (rest ≡ more) × (new ≡ other)
  first_once [] old out others rest more new other a b = (a.1 ∙ sym b.1, a.0 ∙ sym b.0, a.2 ∙ sym b.2)
  first_once (event ∷ events) old out others rest more new other a b =
      let same = takes_once event old out others new other a.1 b.1 in
      (same.0, a.0 ∙ sym b.0, same.1)

  same_house : (a b : House S) → a.seats ≡ b.seats → a.document ≡ b.document → a ≡ b
  same_house a b seats document =
      ap (λ (s : Seats). record { seats = s; document = a.document }) seats ∙ ap (λ (d : Option (Held S)). record { seats = b.seats; document = d }) document

  -- a poll turn
  poll_once : (keeps : Keeps rules cut) (waiting : List Waiting) (old : House S) (out others : List ℕ) (worked too : Bool) (rest more : List Waiting) (new other : House S)
      → IsHoused rules cut old → PollTurn rules cut waiting old out worked rest new → PollTurn rules cut waiting old others too more other
      → (out ≡ others) × (worked ≡ too) × (rest ≡ more) × (new ≡ other)
  poll_once keeps waiting old out others worked too rest more new other housed a b =
      let first = first_once waiting old a.here b.here rest more a.mid b.mid a.takes b.takes in
      let mid : IsHoused rules cut b.mid = first_housed rules cut keeps waiting old b.here more b.mid housed b.takes in
      let turn : TurnsDocument rules cut b.mid.seats b.mid.document a.later a.turned new.document = subst (λ (h : House S). TurnsDocument rules cut h.seats h.document a.later a.turned new.document) first.2 a.turns in
      let same = document_once b.mid.seats b.mid.document a.later b.later a.turned b.turned new.document other.document mid turn b.turns in
      let seats : new.seats ≡ other.seats = a.stays ∙ ap (λ (h : House S). h.seats) first.2 ∙ sym b.stays in (
        a.is ∙ ap (λ (o : List ℕ). o ++ a.later) first.0 ∙ ap (λ (o : List ℕ). b.here ++ o) same.0 ∙ sym b.is,
        a.worked_is ∙ ap (λ (w : Bool). nat_lt 0 (length waiting) || w) same.1 ∙ sym b.worked_is,
        first.1,
        same_house new other seats same.2,
      )

  -- where nothing waits and the document rests, no poll turn works
  no_work : (seats : Seats) (document : Option (Held S)) (out : List ℕ) (worked : Bool) (new : Option (Held S))
      → IsHousedBy rules cut seats document → RestsNow rules document → TurnsDocument rules cut seats document out worked new → worked ≡ true → ⊥
  no_work seats None out worked new housed rests turn works = let odd : false ≡ true = sym turn.1 ∙ works in absurd (cc)
  no_work seats (Some d) out true new housed rests turn works = work_or_rest d turn.0 turn.1 housed.none_out turn.2 rests
  no_work seats (Some d) out false new housed rests turn works = absurd (cc)

  still : (waiting : List Waiting) (old : House S) (out : List ℕ) (rest : List Waiting) (new : House S)
      → IsHoused rules cut old → waiting ≡ [] → RestsNow rules old.document → PollTurn rules cut waiting old out true rest new → ⊥
  still [] old out rest new housed none rests turn =
      no_work old.seats old.document turn.later turn.turned new.document housed rests
      (subst (λ (h : House S). TurnsDocument rules cut h.seats h.document turn.later turn.turned new.document) turn.takes.2 turn.turns) (sym turn.worked_is)
  still (event ∷ events) old out rest new housed none rests turn = absurd (cc)

  -- where every window is empty nobody has something to acknowledge
  empty_window : (d : Document S) (id : ℕ) (found : Option View) → AllByRecursion (λ (v : View). v.window ≡ []) d.views → find_view d.views id ≡ found → wids_of found ≡ []
  empty_window d id None empty is = refl
  empty_window d id (Some view) empty is = ap (λ (w : List Sent). map (λ (tile : Sent). tile.wid) w) (found_view (λ (v : View). v.window ≡ []) d.views id view empty is)

  none_acknowledge : (d : Held S) (seats : List (ℕ × ℕ)) → AllByRecursion (λ (v : View). v.window ≡ []) d.document.views → acknowledgements_by (Some d) seats ≡ []
  none_acknowledge d [] empty = refl
  none_acknowledge d (seat ∷ seats) empty =
      ap (λ (wids : List ℕ). says_processed seat.0 wids ++ acknowledgements_by (Some d) seats) (empty_window d.document seat.1 (find_view d.document.views seat.1) empty refl) ∙ none_acknowledge d seats empty

  nobody_acknowledges : (seats : List (ℕ × ℕ)) → acknowledgements_by {S = S} None seats ≡ []
  nobody_acknowledges [] = refl
  nobody_acknowledges (seat ∷ seats) = nobody_acknowledges seats

  rest_is_silent : (document : Option (Held S)) (seats : List (ℕ × ℕ)) → IsAtRest rules document → acknowledgements_by document seats ≡ []
  rest_is_silent None seats rest = nobody_acknowledges seats
  rest_is_silent (Some d) seats rest = none_acknowledge d seats rest.0.empty

  rest_is_idle : (document : Option (Held S)) → IsAtRest rules document → RestsNow rules document
  rest_is_idle None rest = tt
  rest_is_idle (Some d) rest = rest.0.rests

  -- a move
  same_seen : (s t : Seen S) → s.waiting ≡ t.waiting → s.house ≡ t.house → s ≡ t
  same_seen s t waiting house =
      ap (λ (w : List Waiting). record { waiting = w; house = s.house }) waiting ∙ ap (λ (h : House S). record { waiting = t.waiting; house = h }) house

  move_once : (keeps : Keeps rules cut) (move too : Move) (s t u : Seen S) (out others : List ℕ)
      → IsHoused rules cut s.house → Moves rules cut move s out t → Moves rules cut too s others u → (out ≡ others) × (t ≡ u)
  move_once keeps Turn Turn s t u out others housed a b =
      let same = poll_once keeps s.waiting s.house out others true true t.waiting u.waiting t.house u.house housed a b in
      (same.0, same_seen t u same.2 same.3)
  move_once keeps Turn Acknowledge s t u out others housed a b = absurd (still s.waiting s.house out t.waiting t.house housed b.0.0 b.0.1 a)
  move_once keeps Acknowledge Turn s t u out others housed a b = absurd (still s.waiting s.house others u.waiting u.house housed a.0.0 a.0.1 b)
  move_once keeps Acknowledge Acknowledge s t u out others housed a b = (a.2 ∙ sym b.2, a.3 ∙ sym b.3)

  move_housed : (keeps : Keeps rules cut) (move : Move) (s t : Seen S) (out : List ℕ) → IsHoused rules cut s.house → Moves rules cut move s out t → IsHoused rules cut t.house
  move_housed keeps Turn s t out housed a = poll_housed rules cut keeps s.waiting s.house out true t.waiting t.house housed a
  move_housed keeps Acknowledge s t out housed a = subst (λ (x : Seen S). IsHoused rules cut x.house) (sym a.3) housed

  pub chain_housed : (keeps : Keeps rules cut) (moves : List Move) (s t : Seen S) (out : List ℕ) → IsHoused rules cut s.house → Chain (Moves rules cut) moves s out t → IsHoused rules cut t.house
  chain_housed keeps [] s t out housed a = subst (λ (x : Seen S). IsHoused rules cut x.house) (sym a.1) housed
  chain_housed keeps (move ∷ moves) s t out housed a = chain_housed keeps moves a.0 t a.2 (move_housed keeps move s a.0 a.1 housed a.3) a.4

  -- a house at rest makes no move
  no_move : (move : Move) (s t : Seen S) (out : List ℕ) → IsHoused rules cut s.house → s.waiting ≡ [] → IsAtRest rules s.house.document → Moves rules cut move s out t → ⊥
  no_move Turn s t out housed none rest a = still s.waiting s.house out t.waiting t.house housed none (rest_is_idle s.house.document rest) a
  no_move Acknowledge s t out housed none rest a =
      let silent : length (acknowledgements s.house) ≡ length {A = Waiting} [] = ap length (rest_is_silent s.house.document s.house.seats.views rest) in
      omega (arith, a.1, silent)

  -- moves up to where all is at rest
  chain_once : (keeps : Keeps rules cut) (moves too : List Move) (s t u : Seen S) (out others : List ℕ)
      → IsHoused rules cut s.house → Chain (Moves rules cut) moves s out t → Chain (Moves rules cut) too s others u
      → t.waiting ≡ [] → IsAtRest rules t.house.document → u.waiting ≡ [] → IsAtRest rules u.house.document → (out ≡ others) × (t ≡ u)
  chain_once keeps [] [] s t u out others housed a b none rest still_none still_rest = (a.0 ∙ sym b.0, a.1 ∙ sym b.1)
  chain_once keeps [] (move ∷ moves) s t u out others housed a b none rest still_none still_rest =
      absurd (no_move move s b.0 b.1 housed (subst (λ (x : Seen S). x.waiting ≡ []) a.1 none) (subst (λ (x : Seen S). IsAtRest rules x.house.document) a.1 rest) b.3)
  chain_once keeps (move ∷ moves) [] s t u out others housed a b none rest still_none still_rest =
      absurd (no_move move s a.0 a.1 housed (subst (λ (x : Seen S). x.waiting ≡ []) b.1 still_none) (subst (λ (x : Seen S). IsAtRest rules x.house.document) b.1 still_rest) a.3)
  chain_once keeps (move ∷ moves) (other ∷ too) s t u out others housed a b none rest still_none still_rest =
      let one = move_once keeps move other s a.0 b.0 a.1 b.1 housed a.3 b.3 in
      let later : Chain (Moves rules cut) too a.0 b.2 u = subst (λ (x : Seen S). Chain (Moves rules cut) too x b.2 u) (sym one.1) b.4 in
      let same = chain_once keeps moves too a.0 t u a.2 b.2 (move_housed keeps move s a.0 a.1 housed a.3) a.4 later none rest still_none still_rest in
      (a.5 ∙ ap (λ (o : List ℕ). o ++ a.2) one.0 ∙ ap (λ (o : List ℕ). b.1 ++ o) same.0 ∙ sym b.5, same.1)

  -- so many turns, behind some that were made
  abbrev Reaches : ℕ → ℕ → Seen S → Type 0
  Reaches made count t = (made ≡ count) ⊎ ((made < count) × IsIdle rules t)

  too_many : (made n count : ℕ) (u : Seen S) → made ≡ count → Reaches (made + suc n) count u → ⊥
  too_many made n count u all (inl is) = omega (arith, all, is)
  too_many made n count u all (inr less) = omega (arith, all, less.0)

  one_further : (made n count : ℕ) (t : Seen S) → Reaches (made + suc n) count t → Reaches (suc made + n) count t
  one_further made n count t (inl is) = inl (omega (arith, is))
  one_further made n count t (inr less) = inr (omega (arith, less.0), less.1)

  from_none : (n count : ℕ) (t : Seen S) → Reaches n count t → Reaches (0 + n) count t
  from_none n count t (inl is) = inl (omega (arith, is))
  from_none n count t (inr less) = inr (omega (arith, less.0), less.1)

  -- no turn is left to make
  none_left : (made n count : ℕ) (s t next u : Seen S) (out : List ℕ)
      → IsHoused rules cut s.house → t ≡ s → Reaches (made + 0) count t → Reaches (made + suc n) count u → Moves rules cut Turn s out next → ⊥
  none_left made n count s t next u out housed same (inl is) further turn = too_many made n count u (omega (arith, is)) further
  none_left made n count s t next u out housed same (inr idle) further turn =
      let here : IsIdle rules s = subst (IsIdle rules) same idle.1 in
      still s.waiting s.house out next.waiting next.house housed here.0 here.1 turn

  turns_once : (keeps : Keeps rules cut) (made n m count : ℕ) (s t u : Seen S) (out others : List ℕ)
      → IsHoused rules cut s.house → Chain (Moves rules cut) (turns n) s out t → Chain (Moves rules cut) (turns m) s others u
      → Reaches (made + n) count t → Reaches (made + m) count u → (out ≡ others) × (t ≡ u)
  turns_once keeps made zero zero count s t u out others housed a b all every = (a.0 ∙ sym b.0, a.1 ∙ sym b.1)
  turns_once keeps made zero (suc m) count s t u out others housed a b all every = absurd (none_left made m count s t b.0 u b.1 housed a.1 all every b.3)
  turns_once keeps made (suc n) zero count s t u out others housed a b all every = absurd (none_left made n count s u a.0 t a.1 housed b.1 every all a.3)
  turns_once keeps made (suc n) (suc m) count s t u out others housed a b all every =
      let one = move_once keeps Turn Turn s a.0 b.0 a.1 b.1 housed a.3 b.3 in
      let later : Chain (Moves rules cut) (turns m) a.0 b.2 u = subst (λ (x : Seen S). Chain (Moves rules cut) (turns m) x b.2 u) (sym one.1) b.4 in
      let same = turns_once keeps (suc made) n m count a.0 t u a.2 b.2 (move_housed keeps Turn s a.0 a.1 housed a.3) a.4 later (one_further made n count t all) (one_further made m count u every) in
      (a.5 ∙ ap (λ (o : List ℕ). o ++ a.2) one.0 ∙ ap (λ (o : List ℕ). b.1 ++ o) same.0 ∙ sym b.5, same.1)

  -- what the lines `turn` and `settle` write, and the world behind them
  pub turned_once : (keeps : Keeps rules cut) (count : ℕ) (s t u : Seen S) (out others : List ℕ)
      → IsHoused rules cut s.house → Turned rules cut count s out t → Turned rules cut count s others u → (out ≡ others) × (t ≡ u)
  turned_once keeps count s t u out others housed a b =
      turns_once keeps 0 a.made b.made count s t u out others housed a.follows b.follows (from_none a.made count t a.all) (from_none b.made count u b.all)

  pub settled_once : (keeps : Keeps rules cut) (s t u : Seen S) (out others : List ℕ)
      → IsHoused rules cut s.house → Settled rules cut s out t → Settled rules cut s others u → (out ≡ others) × (t ≡ u)
  settled_once keeps s t u out others housed a b =
      chain_once keeps a.moves b.moves s t u out others housed a.follows b.follows a.none_waits a.rests b.none_waits b.rests
