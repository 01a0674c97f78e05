-- What is owed to a document is done, by calls on the outside.
use Rattle.std.specs.Prelude.{◌≡◌, ℕ, ◌+◌, true, false, List, [], ◌∷◌, ◌++◌, map}
use Rattle.std.specs.Prelude.{Result, Ok, Err}
use Rattle.std.specs.List.{AllByRecursion, list_any}
use Rattle.cool_base.specs.declared.ids.ViewId.{ViewId}
use Rattle.cool_base.specs.declared.want.Memory.{Memory}
use Rattle.cool_frame.specs.Frames.{frame_bytes}
use Rattle.cool_frame.specs.declared.frame.Frame.{Frame}
use Rattle.net_traits.specs.Nets.{LinkEvent}
use Rattle.poll_machine.specs.Words.{Ways}
use Rattle.poll_machine.specs.Agenda.{HeldDocument, Todo, Give, Here}
use Rattle.poll_machine.specs.House.{At, Happens, OfDoc, ends_by, lobby_after, may_join}
use Rattle.poll_machine.specs.Project.{HeldMove}
use Rattle.poll_machine.specs.Runs.{Run}
use Rattle.poll_machine.specs.Told.{Heard, Hears}
use Rattle.poll_machine.specs.Turn.{is_done_here}

-- a document to which this is owed
abbrev pub owing : {D J P L : Type 0} → HeldDocument D J P L → List (Todo J P)
    → HeldDocument D J P L
owing h todo = record h { todo = todo }

-- what happens to a document at one moment
abbrev pub timed : {J P L : Type 0} → ℕ → List (Here J P L) → List (ℕ × Here J P L)
timed moment heres = map (λ here. (moment, here)) heres

-- the events of its house that they are
abbrev pub at_house : {D J P L : Type 0} → ℕ → ℕ → List (Here J P L) → List (Happens D J P L)
at_house id moment heres = map (λ here. OfDoc id moment (At here)) heres

-- that a frame is owed to its view
abbrev pub give_of : {J P : Type 0} → ViewId × Frame → Todo J P
give_of given = Give given.0.0 (frame_bytes given.1)

-- how many links ended by what happened to a document
abbrev pub ended_by : (D : Type 0) {J P L : Type 0} → List (Here J P L) → ℕ
ended_by D [] = 0
ended_by D (here ∷ heres) = ends_by {D = D} (At here) + ended_by D heres

-- what happened leaves the links of the lobby
abbrev pub KeepsLobby : (D : Type 0) {J P L : Type 0} → List ℕ → Here J P L → Type 0
KeepsLobby D lobby here = (may_join {D = D} (At here) lobby ≡ true)
    × (lobby_after {D = D} (At here) lobby ≡ lobby)

-- whatever else is owed behind it: of what was owed first this is left after these steps of the
-- document, for exactly which the outside was called, which leave the lobby, none of which is by
-- itself something that a turn did, and by which so many links ended
pub record Passes {D J P L : Type 0} (w : Ways D J P) (carries : L → List LinkEvent)
    (id moment : ℕ) (old : HeldDocument D J P L) (owed : List (Todo J P))
    (before : Heard D J P L) (ended : ℕ) (new : HeldDocument D J P L) (left : List (Todo J P))
    (after : Heard D J P L) : Type 0 where
  pub heres : List (Here J P L)
  pub run : (rest : List (Todo J P))
      → Run (HeldMove w) (owing old (owed ++ rest)) (timed moment heres) (owing new (left ++ rest))
  pub heard : Hears w carries before (at_house id moment heres) after
  pub lobby : (links : List ℕ) → AllByRecursion (KeepsLobby D links) heres
  pub idle : list_any (λ here. is_done_here here) heres ≡ false
  pub counted : ended_by D heres ≡ ended

-- some of what was owed first was done
abbrev pub Stops : {D J P L : Type 0} → Ways D J P → (L → List LinkEvent) → (id moment : ℕ)
    → HeldDocument D J P L → List (Todo J P) → Heard D J P L → Heard D J P L → Type 0
Stops {D} {J} {P} {L} w carries id moment old owed before after =
    (last : HeldDocument D J P L) × (left : List (Todo J P)) × (ended : ℕ)
    × Passes w carries id moment old owed before ended last left after

-- all that was owed first was done, and so many links ended; or, out of memory, some of it was
abbrev pub Settles : {D J P L : Type 0} → Ways D J P → (L → List LinkEvent) → (id moment : ℕ)
    → HeldDocument D J P L → List (Todo J P) → Heard D J P L → Result ℕ Memory
    → HeldDocument D J P L → Heard D J P L → Type 0
Settles w carries id moment old owed before (Ok ended) new after =
    Passes w carries id moment old owed before ended new [] after
Settles w carries id moment old owed before (Err memory) new after =
    Stops w carries id moment old owed before after
