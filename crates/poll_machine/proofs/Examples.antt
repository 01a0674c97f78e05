-- Small runs, computed on the definitions.
use Rattle.std.proofs.Common.{◌≡◌, ◌≢◌, ℕ, ◌+◌, Bool, true, false, List, [], ◌∷◌, Option, None}
use Rattle.std.proofs.Common.{Some, refl, nat_eq, arith}
use Rattle.cool_base.specs.declared.ids.LinkId.{LinkId}
use Rattle.cool_frame.specs.declared.kind.ErrorKind.TheVariants.{BadUrl}
use Rattle.net_traits.specs.declared.nets.Given.TheVariants.{Sent, Failed}
use Rattle.net_traits.specs.declared.nets.Taken.TheVariants as taken
use Rattle.poll_machine.specs.Words.{Event, Joined, Left, Said, Turned, Painted, PutAnswered, Work}
use Rattle.poll_machine.specs.Words.{Paint, Outs, nothing, Ways}
use Rattle.poll_machine.specs.Agenda.{HeldDocument, ViewLink, Here, Did, Gives, Leaves}
use Rattle.poll_machine.specs.Agenda.{Frees as FreesHere, Releases, HeldStep}
use Rattle.poll_machine.specs.House.{Slot, Live, House, Happens, Ticks, Takes, Calls, OfDoc, Shows}
use Rattle.poll_machine.specs.House.{Frees, SlotAct, At, Arrives, HouseStep}
use Rattle.poll_machine.specs.Lobby.{loads, refusal_bytes}
use Rattle.poll_machine.specs.Turn.{Outcome, Worked, Idle, NetFault, outcome}
use Rattle.poll_machine.specs.Project.{acts_of, moves_of, frames_of, HeldMove}
use Rattle.poll_machine.specs.Plans.{Follows}
use Rattle.poll_machine.specs.Runs.{Run}

-- a document that counts its events: it echoes what a view says to it, and a turn that works gives
-- out a job
abbrev echo : Event ℕ → Outs ℕ
echo (Said view text) = record { frames = (view, text) ∷ []; works = [] }
echo (Turned true) = record { frames = []; works = Paint 5 ∷ [] }
echo _ = nothing

abbrev counting : Ways ℕ ℕ ℕ
counting = record {
  address = λ url. None;
  opening = λ file bytes. Some 0;
  Steps = λ old event outs new. (outs ≡ echo event) × (new ≡ old + 1);
  paints = λ job. job;
  ticket_of = λ result. result;
  next_view = λ doc. doc;
  is_full = λ doc. false;
  is_done = λ doc. false;
  is_lost = λ doc. false;
  lock_of = λ doc ticket answer. None;
}

-- a held document with two views
abbrev held : ℕ → List ViewLink → List (ℕ × ℕ) → HeldDocument ℕ ℕ ℕ ℕ
held doc views packed = record {
  file = 7 ∷ [];
  doc = doc;
  views = views;
  packed = packed;
  lock = None;
  todo = [];
}

abbrev first : ViewLink
first = record { view = 0; link = 10 }

abbrev second : ViewLink
second = record { view = 1; link = 11 }

abbrev two : HeldDocument ℕ ℕ ℕ ℕ
two = held 3 (first ∷ second ∷ []) []

-- a view says something, and the give of its frame fails: it leaves before anything else, and its
-- link is released; its frame counts as given, and the leave is an event of the document
abbrev failed_give : List (ℕ × Here ℕ ℕ ℕ)
failed_give = (0, Did (Said 1 (4 ∷ [])) (echo (Said 1 (4 ∷ [])))) ∷
    (0, Gives 1 11 (4 ∷ []) Failed) ∷ (0, Leaves 1) ∷ (0, FreesHere 11 None) ∷ []

a_failed_give : Run (HeldMove counting) two failed_give (held 5 (first ∷ []) [])
a_failed_give = (
  _,
  (4, refl, refl, (refl, refl), refl),
  (_, (_, refl, refl, refl), (_, (_, 5, refl, (refl, refl), refl), (_, (_, refl, refl), refl))),
)

its_moves : moves_of failed_give
    ≡ (Said 1 (4 ∷ []), echo (Said 1 (4 ∷ []))) ∷ (Left 1, nothing) ∷ []
its_moves = refl

its_frames : frames_of failed_give ≡ (1, 4 ∷ []) ∷ []
its_frames = refl

-- a departure: the first view's link is packed; the net had the second's no longer, so that view
-- leaves before the document goes
a_departure : Run (HeldMove counting) two
    ((0, Releases 0 10 (Some 77)) ∷ (0, Releases 1 11 None) ∷ (0, Leaves 1) ∷ [])
    (held 4 [] ((0, 77) ∷ []))
a_departure = (
  _,
  (refl, refl, refl),
  (_, (refl, refl, refl), (_, (_, 4, refl, (refl, refl), refl), refl)),
)

-- what a turn answers
idle_turn : outcome {D = ℕ} {J = ℕ} {P = ℕ} {L = ℕ}
    (Ticks 5 ∷ Calls (Arrives None) ∷ Takes taken.Nothing ∷ []) ≡ Idle
idle_turn = refl

a_link_opens : outcome {D = ℕ} {J = ℕ} {P = ℕ} {L = ℕ}
    (Ticks 5 ∷ Calls (Arrives None) ∷ Takes (taken.Opened (record { 0 = 9 })) ∷ []) ≡ Worked
a_link_opens = refl

a_net_fails : outcome {D = ℕ} {J = ℕ} {P = ℕ} {L = ℕ}
    (Ticks 5 ∷ Calls (Arrives None) ∷ Takes taken.Failed ∷ []) ≡ NetFault
a_net_fails = refl

-- a house with two documents and a link in its lobby
abbrev house : HeldDocument ℕ ℕ ℕ ℕ → HeldDocument ℕ ℕ ℕ ℕ → House ℕ ℕ ℕ ℕ
house a b = record {
  me = 0;
  spread = false;
  docs = (0, Live a) ∷ (1, Live b) ∷ [];
  lobby = 9 ∷ [];
  lost = [];
  opened = 5;
  ended = 0;
  moment = 5;
}

-- the second makes a turn; the first is as it was, and was done nothing
abbrev turn_of_second : Happens ℕ ℕ ℕ ℕ
turn_of_second = OfDoc 1 5 (At (Did (Turned false) nothing))

a_turn_of_one : HouseStep counting (house two two) turn_of_second
    (house two (held 4 (first ∷ second ∷ []) []))
a_turn_of_one = record {
  now = refl;
  one = (two, held 4 (first ∷ second ∷ []) [], refl, (4, refl, refl, (refl, refl), refl), refl);
  others = λ x other. let e : nat_eq 1 x ≡ false = grind (arith, other) in rw e refl;
  order = (grind arith, tt);
  waits = refl;
  rest = refl;
}

nothing_to_the_first : acts_of 0 (turn_of_second ∷ []) ≡ []
nothing_to_the_first = refl

-- a load whose address names no document: the link is answered, and stays; where the give fails it
-- ends
a_refused_load : Follows (HouseStep counting) (loads counting 9 None) (house two two)
    (Shows 9 (refusal_bytes (record { kind = BadUrl; code = None })) Sent ∷ []) (house two two)
a_refused_load = (
  Sent,
  (
    house two two,
    Shows 9
        (refusal_bytes (record { kind = BadUrl; code = None })) Sent ∷ [],
    [],
    refl,
    (refl, (refl, refl)),
    (refl, refl),
  ),
)

a_lost_answer : Follows (HouseStep counting) (loads counting 9 None) (house two two)
    (Shows 9 (refusal_bytes (record { kind = BadUrl; code = None })) Failed ∷ Frees 9 None ∷ [])
    (record (house two two) { lobby = []; ended = 1 })
a_lost_answer = (
  Failed,
  (
    record (house two two) { lobby = []; ended = 1 },
    Shows 9
        (refusal_bytes (record { kind = BadUrl; code = None })) Failed ∷ [],
    Frees 9 None ∷ [],
    refl,
    (refl, (refl, refl)),
    (None, (refl, refl)),
  ),
)
