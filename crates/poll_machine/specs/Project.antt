-- The run of one document, taken alone, and the headline.
use Rattle.std.specs.Prelude.{◌≡◌, ℕ, nat_eq, List, [], ◌∷◌, ◌++◌, if◌then◌else◌, ⊤}
use Rattle.document_machine.specs.declared.rights.Rights.{Rights}
use Rattle.net_traits.specs.Nets.{LinkEvent}
use Rattle.poll_machine.specs.Words.{Event, Joined, Left, Outs, nothing, event_of, Ways, Moves}
use Rattle.poll_machine.specs.Agenda.{HeldDocument, Todo, Give, Leave, LetGo, Offer, Hand, Do, Take}
use Rattle.poll_machine.specs.Agenda.{Here, Joins, Did, Gives, Skips, Leaves, Takes, HeldStep}
use Rattle.poll_machine.specs.House.{Slot, SlotAct, Happens, OfDoc, House, HouseStep, SlotStep}
use Rattle.poll_machine.specs.House.{slot_of}
use Rattle.poll_machine.specs.Told.{Heard, Hears}
use Rattle.poll_machine.specs.Runs.{Run}

-- what is done to one document by an event, and by many
abbrev pub act_of : {D J P L : Type 0} → ℕ → Happens D J P L → List (ℕ × SlotAct D J P L)
act_of id (OfDoc x moment act) = if nat_eq x id then (moment, act) ∷ [] else []
act_of id _ = []

abbrev pub acts_of : {D J P L : Type 0} → ℕ → List (Happens D J P L) → List (ℕ × SlotAct D J P L)
acts_of id [] = []
acts_of id (event ∷ events) = act_of id event ++ acts_of id events

-- a document's own event in what happens to it while it is held, with what it gave out
abbrev pub move_of : {J P L : Type 0} → Here J P L → List (Event P × Outs J)
move_of (Joins link rights outs) = (Joined rights, outs) ∷ []
move_of (Did event outs) = (event, outs) ∷ []
move_of (Leaves view) = (Left view, nothing) ∷ []
move_of (Takes answer outs) = (event_of answer, outs) ∷ []
move_of _ = []

abbrev pub moves_of : {J P L : Type 0} → List (ℕ × Here J P L) → List (Event P × Outs J)
moves_of [] = []
moves_of (h ∷ heres) = move_of h.1 ++ moves_of heres

-- the frames that are given to the links of views, or skipped, in order
abbrev pub frame_of : {J P L : Type 0} → Here J P L → List (ℕ × List ℕ)
frame_of (Gives view link frame given) = (view, frame) ∷ []
frame_of (Skips view frame) = (view, frame) ∷ []
frame_of _ = []

abbrev pub frames_of : {J P L : Type 0} → List (ℕ × Here J P L) → List (ℕ × List ℕ)
frames_of [] = []
frames_of (h ∷ heres) = frame_of h.1 ++ frames_of heres

-- the frames that are still to be given
abbrev pub frame_owed : {J P : Type 0} → Todo J P → List (ℕ × List ℕ)
frame_owed (Give view frame) = (view, frame) ∷ []
frame_owed _ = []

abbrev pub frames_owed : {J P : Type 0} → List (Todo J P) → List (ℕ × List ℕ)
frames_owed [] = []
frames_owed (t ∷ todo) = frame_owed t ++ frames_owed todo

-- the frames that are still to be given stand before all works and answers
abbrev pub IsInOrder : {J P : Type 0} → List (Todo J P) → Type 0
IsInOrder [] = ⊤
IsInOrder (Give view frame ∷ rest) = IsInOrder rest
IsInOrder (Leave view ∷ rest) = IsInOrder rest
IsInOrder (LetGo link ∷ rest) = IsInOrder rest
IsInOrder (Offer work ∷ rest) = (frames_owed rest ≡ []) × IsInOrder rest
IsInOrder (Hand work ∷ rest) = (frames_owed rest ≡ []) × IsInOrder rest
IsInOrder (Do work ∷ rest) = (frames_owed rest ≡ []) × IsInOrder rest
IsInOrder (Take answer ∷ rest) = (frames_owed rest ≡ []) × IsInOrder rest

-- the frames of moves, in order
abbrev pub frames_out : {J P : Type 0} → List (Event P × Outs J) → List (ℕ × List ℕ)
frames_out [] = []
frames_out (move ∷ moves) = move.1.frames ++ frames_out moves

-- a step of a held document at its moment
abbrev pub HeldMove : {D J P L : Type 0} → Ways D J P → HeldDocument D J P L → ℕ × Here J P L
    → HeldDocument D J P L → Type 0
HeldMove w old move new = HeldStep w move.0 old move.1 new

-- the headline: from one house the events lead to another; for each document, taken alone, what was
-- done to it leads from what was held of it, if anything, to what is held of it; and the outside
-- was called for exactly these events
pub record Headline {D J P L : Type 0} (w : Ways D J P) (carries : L → List LinkEvent)
    (old : House D J P L) (before : Heard D J P L) (events : List (Happens D J P L))
    (new : House D J P L) (after : Heard D J P L) : Type 0 where
  pub run : Run (HouseStep w) old events new
  pub each : (id : ℕ) → Run (SlotStep w) (slot_of id old.docs) (acts_of id events)
      (slot_of id new.docs)
  pub told : Hears w carries before events after
