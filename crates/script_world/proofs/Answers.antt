-- Turns and answers, by what a broker answers.
use Rattle.std.proofs.Common.{◌≡◌, ◌∙◌, ℕ, true, false, List, [], ◌∷◌, ◌++◌, length, map, Option, None, Some, IsSome, refl, sym, ap, subst, append_assoc}
use Rattle.std.proofs.lemmas.List.{append-nil}
use Rattle.cool_base.specs.declared.ids.ViewId.{ViewId}
use Rattle.cool_frame.specs.declared.frame.Frame.{Frame}
use Rattle.document_laws.specs.AtOnce.{answered, stored}
use Rattle.document_machine.proofs.Runs.{nothing_last, runs}
use Rattle.document_machine.specs.Event.{Event, Painted}
use Rattle.document_machine.specs.Goes.{Did, Goes, Moves, next_work}
use Rattle.document_machine.specs.Held.{Held, KeptTile, kept_by}
use Rattle.document_machine.specs.Next.{Work, Serve, Apply, Send, Cut, Rest}
use Rattle.document_machine.specs.Outputs.{nothing, joined}
use Rattle.document_machine.specs.State.{Document}
use Rattle.document_machine.specs.Step.{Does, Rests}
use Rattle.document_machine.specs.declared.outs.Outs.{Outs}
use Rattle.document_machine.specs.declared.outs.Turned.{Turned}
use Rattle.document_machine.specs.declared.outs.Turned.TheVariants.{Worked, Idle}
use Rattle.kit_trait.specs.Rules.{Rules}
use Rattle.kit_trait.specs.declared.jobs.PaintJob.{PaintJob}
use Rattle.outside.specs.declared.errands.Errand.{Errand}
use Rattle.tile_key.specs.Places.{Place}
use Rattle.script_world.specs.Answered.{TakesAll}
use Rattle.script_world.specs.House.{TurnsDocument}
use Rattle.script_world.specs.Seats.{Seats, record_to, records}

pub records-append : (seats : Seats) (a b : List (ViewId × Frame)) → records seats (a ++ b) ≡ records seats a ++ records seats b
records-append seats [] b = refl
records-append seats (x ∷ a) b = ap (λ (o : List ℕ). record_to seats x ++ o) (records-append seats a b) ∙ sym (append_assoc (record_to seats x) (records seats a) (records seats b))

no_items : {X : Type 0} (xs : List X) → length xs ≡ 0 → xs ≡ []
no_items [] none = refl
no_items (x ∷ xs) none = absurd (cc)

-- no job is left, and no errand
pub no_jobs : {S : Type 0} (jobs : List (PaintJob S)) → length jobs ≡ 0 → map answered jobs ≡ []
no_jobs jobs none = ap (map answered) (no_items jobs none)

pub no_errands : {S : Type 0} (errands : List Errand) → length errands ≡ 0 → map (stored {S = S}) errands ≡ []
no_errands {S} errands none = ap (map (stored {S = S})) (no_items errands none)

module _ {C B S : Type 0} (rules : Rules C B) (cut : C → Place → S) (seats : Seats) where
  -- no event more
  takes_none : (now : Option (Held S)) → IsSome now → TakesAll rules cut seats now [] [] now
  takes_none None there = absurd (cc)
  takes_none (Some held) there = (held, nothing, (refl, refl), refl, refl)

  -- one event, by the answer of a broker
  pub takes_one : (old new : Option (Held S)) (event : Event S) (outs : Outs S) (out : List ℕ) → Goes rules cut old event outs new → out ≡ records seats outs.frames → TakesAll rules cut seats old (event ∷ []) out new
  takes_one None new event outs out goes is = absurd goes
  takes_one (Some old) None event outs out goes is = absurd goes
  takes_one (Some old) (Some new) event outs out goes is = (new, outs, (new, outs, nothing, goes, (refl, refl), sym (nothing_last outs)), is, refl)

  -- a job that comes back with its own ticket and its own scene
  pub comes_back : (old new : Option (Held S)) (job : PaintJob S) (ticket : ℕ) (scene : S) (outs : Outs S) (out : List ℕ) → ticket ≡ job.ticket.0 → scene ≡ job.scene
      → Goes rules cut old (Painted ticket scene) outs new → out ≡ records seats outs.frames → TakesAll rules cut seats old (answered job ∷ []) out new
  comes_back old new job ticket scene outs out same shown goes is =
      takes_one old new (answered job) outs out
      (subst (λ (s : S). Goes rules cut old (Painted job.ticket.0 s) outs new) shown (subst (λ (n : ℕ). Goes rules cut old (Painted n scene) outs new) same goes)) is

  pub takes_there : (old new : Option (Held S)) (events : List (Event S)) (out : List ℕ) → TakesAll rules cut seats old events out new → IsSome new
  takes_there None new events out takes = absurd takes
  takes_there (Some old) new events out takes = subst IsSome (sym takes.4) refl

  -- some events, and then others
  pub takes_both : (old mid new : Option (Held S)) (events more : List (Event S)) (here later : List ℕ) → TakesAll rules cut seats old events here mid → TakesAll rules cut seats mid more later new
      → TakesAll rules cut seats old (events ++ more) (here ++ later) new
  takes_both None mid new events more here later first then = absurd first
  takes_both (Some old) mid new events more here later first then =
      let then_from : TakesAll rules cut seats (Some first.0) more later new = subst (λ (o : Option (Held S)). TakesAll rules cut seats o more later new) first.4 then in (
        then_from.0,
        joined first.1 then_from.1,
        runs (Moves rules cut) old events more first.1 then_from.1 first.0 then_from.0 first.2 then_from.2,
        ap (λ (o : List ℕ). o ++ later) first.3 ∙ ap (λ (o : List ℕ). records seats first.1.frames ++ o) then_from.3 ∙ sym (records-append seats first.1.frames then_from.1.frames),
        then_from.4,
      )

  -- the same records
  pub grown : (old new : Option (Held S)) (events : List (Event S)) (all out : List ℕ) → out ≡ all → TakesAll rules cut seats old events all new → TakesAll rules cut seats old events out new
  grown old new events all out is takes = subst (λ (o : List ℕ). TakesAll rules cut seats old events o new) (sym is) takes

  -- what the events that are left lead to is what all of them lead to, with the records so far in front
  abbrev pub LeadsTo : Option (Held S) → List (Event S) → Option (Held S) → List (Event S) → List ℕ → Type 0
  LeadsTo old events now left bytes = (out : List ℕ) (new : Option (Held S)) → TakesAll rules cut seats now left out new → TakesAll rules cut seats old events (bytes ++ out) new

  -- one event less is left
  pub leads_further : (old mid now : Option (Held S)) (events before left : List (Event S)) (event : Event S) (bytes here more : List ℕ)
      → LeadsTo old events mid before bytes → before ≡ event ∷ left → TakesAll rules cut seats mid (event ∷ []) here now → more ≡ bytes ++ here
      → LeadsTo old events now left more
  leads_further old mid now events before left event bytes here more leads is takes all = λ out new later.
      let both : TakesAll rules cut seats mid (event ∷ left) (here ++ out) new = takes_both mid now new (event ∷ []) left here out takes later in
      let whole : TakesAll rules cut seats old events (bytes ++ (here ++ out)) new = leads (here ++ out) new (subst (λ (es : List (Event S)). TakesAll rules cut seats mid es (here ++ out) new) (sym is) both) in
      subst (λ (b : List ℕ). TakesAll rules cut seats old events b new) (sym (append_assoc bytes here out) ∙ ap (λ (b : List ℕ). b ++ out) (sym all)) whole

  -- no event is left
  pub leads_to_end : (old now : Option (Held S)) (events left : List (Event S)) (bytes : List ℕ) → LeadsTo old events now left bytes → IsSome now → left ≡ [] → TakesAll rules cut seats old events bytes now
  leads_to_end old now events left bytes leads there none =
      subst (λ (b : List ℕ). TakesAll rules cut seats old events b now) (append-nil bytes)
      (leads [] now (subst (λ (es : List (Event S)). TakesAll rules cut seats now es [] now) (sym none) (takes_none now there)))

  pub turn_there : (old new : Option (Held S)) (turned : Turned S) → Did rules cut old turned new → IsSome new
  turn_there None new turned did = absurd did
  turn_there (Some old) None turned did = absurd did
  turn_there (Some old) (Some new) turned did = refl

  -- a turn that worked, with all that it gave out answered
  pub worked_by : (old mid new : Option (Held S)) (outs : Outs S) (here later out : List ℕ)
      → Did rules cut old (Worked outs) mid → here ≡ records seats outs.frames → TakesAll rules cut seats mid (map answered outs.jobs ++ map stored outs.errands) later new → out ≡ here ++ later
      → TurnsDocument rules cut seats old out true new
  worked_by None mid new outs here later out did is takes all = absurd did
  worked_by (Some old) None new outs here later out did is takes all = absurd did
  worked_by (Some old) (Some mid) new outs here later out did is takes all = (
    takes.0,
    outs.frames ++ takes.1.frames,
    record { mid = mid; first = outs; later = takes.1; does = did; answered = takes.2; frames_are = refl },
    all ∙ ap (λ (o : List ℕ). o ++ later) is ∙ ap (λ (o : List ℕ). records seats outs.frames ++ o) takes.3 ∙ sym (records-append seats outs.frames takes.1.frames),
    takes.4,
  )

  -- a turn that did nothing
  rests_of : (old new : Document S) (tiles : List KeptTile) (work : Work) → Does rules cut old work Idle new → Rests rules old × (new ≡ old) × (kept_by tiles work ≡ tiles)
  rests_of old new tiles Serve does = absurd does
  rests_of old new tiles Apply does = absurd does
  rests_of old new tiles (Send id key version) does = absurd does
  rests_of old new tiles (Cut id key) does = absurd does
  rests_of old new tiles Rest does = (does.0, does.1, refl)

  same_held : (a b : Held S) → a.document ≡ b.document → a.kept ≡ b.kept → a ≡ b
  same_held a b document kept =
      ap (λ (d : Document S). record { document = d; kept = a.kept }) document ∙ ap (λ (tiles : List KeptTile). record { document = b.document; kept = tiles }) kept

  pub rested_by : (old new : Option (Held S)) (out : List ℕ) → Did rules cut old Idle new → out ≡ [] → TurnsDocument rules cut seats old out false new
  rested_by None new out did is = absurd did
  rested_by (Some old) None out did is = absurd did
  rested_by (Some old) (Some new) out did is =
      let rests = rests_of old.document new.document old.kept (next_work rules old) did.0 in
      (is, rests.0, ap Some (same_held new old rests.1 (did.1 ∙ rests.2)))
