-- The kind of document that a poll of the daemon holds: a broker.
use Rattle.std.specs.Prelude.{◌≡◌, ℕ, Bool, true, false, nat_le, List, ◌++◌, length, map, Option}
use Rattle.std.specs.Prelude.{None, Some, option_and_then, Result, if◌then◌else◌}
use Rattle.std.specs.Option.{option_map_or}
use Rattle.cool_frame.specs.Frames.{frame_bytes}
use Rattle.kit_trait.specs.Rules.{Rules}
use Rattle.kit_trait.specs.declared.jobs.PaintJob.{PaintJob}
use Rattle.outside.specs.declared.errands.Receipt.{Receipt}
use Rattle.outside.specs.declared.faults.StoreFault.{StoreFault}
use Rattle.tile_key.specs.Places.{Place}
use Rattle.document_machine.specs.Done.{is_done, is_lost}
use Rattle.document_machine.specs.Event as machine
use Rattle.document_machine.specs.Goes.{Goes, Did}
use Rattle.document_machine.specs.Held.{Held, opening_held}
use Rattle.document_machine.specs.Outputs.{outs_of}
use Rattle.document_machine.specs.declared.limits.TheConstants.{MOST_VIEWS}
use Rattle.document_machine.specs.declared.outs.Outs.{Outs as Given}
use Rattle.document_machine.specs.declared.outs.Turned.{Turned as TurnAnswer}
use Rattle.document_machine.specs.declared.outs.Turned.TheVariants.{Worked, Idle}
use Rattle.load_address.specs.Addresses.{address}
use Rattle.load_address.specs.declared.served.Served.{Served}
use Rattle.poll_machine.specs.Words.{Event, Joined, Left, Said, Turned, Painted, PutAnswered, Paint}
use Rattle.poll_machine.specs.Words.{Put, Outs, Ways}
use Rattle.poll_instance.specs.Locks.{lock_token}

-- a scene that was painted, with the ticket of its job
pub record Painting (S : Type 0) : Type 0 where
  pub ticket : ℕ
  pub scene : S

-- what a poll gives on of what a broker gave out: the bytes of its frames, and its jobs and errands
-- as works
abbrev pub given_out : {S : Type 0} → Given S → Outs (PaintJob S)
given_out given = record {
  frames = map (λ p. (p.0.0, frame_bytes p.1)) given.frames;
  works = map (λ job. Paint job) given.jobs ++ map (λ errand. Put errand) given.errands;
}

-- the event of the document that an event of the poll is
abbrev pub machine_event : {S : Type 0} → Event (Painting S) → machine.Event S
machine_event (Joined rights) = machine.Joined rights
machine_event (Left view) = machine.Left view
machine_event (Said view text) = machine.Said view text
machine_event (Turned worked) = machine.Turned
machine_event (Painted result) = machine.Painted result.ticket result.scene
machine_event (PutAnswered ticket answer) = machine.PutAnswered ticket answer

-- a broker moves by this event of its document, and this is given on
abbrev pub MovesOn : {C B S : Type 0} → Rules C B → (C → Place → S) → Option (Held S)
    → machine.Event S → Outs (PaintJob S) → Option (Held S) → Type 0
MovesOn {C} {B} {S} rules cut old event outs new =
    (given : Given S) × Goes rules cut old event given new × (outs ≡ given_out given)

-- whether a turn did a work
abbrev pub did_work : {S : Type 0} → TurnAnswer S → Bool
did_work (Worked outs) = true
did_work Idle = false

-- a broker makes a turn: the one work that is next, and the event tells whether there was one
abbrev pub TurnsOn : {C B S : Type 0} → Rules C B → (C → Place → S) → Option (Held S) → Bool
    → Outs (PaintJob S) → Option (Held S) → Type 0
TurnsOn {C} {B} {S} rules cut old worked outs new =
    (turned : TurnAnswer S) × Did rules cut old turned new × (worked ≡ did_work turned)
    × (outs ≡ given_out (outs_of turned))

-- a step of a document
abbrev pub StepsOn : {C B S : Type 0} → Rules C B → (C → Place → S) → Option (Held S)
    → Event (Painting S) → Outs (PaintJob S) → Option (Held S) → Type 0
StepsOn rules cut old (Joined rights) outs new = MovesOn rules cut old (machine.Joined rights) outs
    new
StepsOn rules cut old (Left view) outs new = MovesOn rules cut old (machine.Left view) outs new
StepsOn rules cut old (Said view text) outs new = MovesOn rules cut old (machine.Said view text)
    outs new
StepsOn rules cut old (Turned worked) outs new = TurnsOn rules cut old worked outs new
StepsOn rules cut old (Painted result) outs new = MovesOn rules cut old
    (machine.Painted result.ticket result.scene) outs new
StepsOn rules cut old (PutAnswered ticket answer) outs new = MovesOn rules cut old
    (machine.PutAnswered ticket answer) outs new

-- the broker of a file, where the kit accepts it
abbrev pub opened : {C B S : Type 0} → Rules C B → (file bytes : List ℕ)
    → Option (Option (Held S))
opened rules file bytes = if rules.accepts bytes then Some (Some (opening_held file bytes)) else
    None

-- whether a broker has all the views that it may have
abbrev pub is_full : {S : Type 0} → Option (Held S) → Bool
is_full broker = option_map_or (λ held. nat_le MOST_VIEWS (length held.document.views)) broker false

-- the token of the lock that a store's answer gives a broker
abbrev pub broker_lock : {S : Type 0} → Option (Held S) → ℕ → Result Receipt StoreFault
    → Option (List ℕ)
broker_lock broker ticket answer =
    option_and_then (λ held. lock_token held.document.saving ticket answer) broker

-- the kind of document that a poll holds whose host of files is this, over a kit's rules: a broker,
-- which is none once it is spent
abbrev pub ways : {C B S : Type 0} → Rules C B → (C → Place → S) → Served
    → Ways (Option (Held S)) (PaintJob S) (Painting S)
ways rules cut served = record {
  address = address served;
  opening = opened rules;
  Steps = StepsOn rules cut;
  paints = λ job. record { ticket = job.ticket.0; scene = job.scene };
  ticket_of = λ result. result.ticket;
  next_view = λ broker. option_map_or (λ held. held.document.next_view) broker 0;
  is_full = is_full;
  is_done = λ broker. option_map_or (λ held. is_done held.document) broker false;
  is_lost = λ broker. option_map_or (λ held. is_lost held.document) broker false;
  lock_of = broker_lock;
}
