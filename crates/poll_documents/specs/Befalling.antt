-- An event befalls a document, and all that is owed for it is done.
use Rattle.std.specs.Prelude.{◌≡◌, ℕ, List, [], ◌⊎◌, Bool, Result, Ok, Err}
use Rattle.cool_base.specs.declared.want.Memory.{Memory}
use Rattle.net_traits.specs.Nets.{LinkEvent}
use Rattle.poll_machine.specs.Words.{Event, Turned, Outs, Ways}
use Rattle.poll_machine.specs.Agenda.{HeldDocument, HeldStep, Did, todo_of}
use Rattle.poll_machine.specs.Told.{Heard}
use Rattle.poll_documents.specs.Settling.{Passes, Stops, owing}

-- the event gave something out, and all of that was done; so many links ended
pub record Befell {D J P L : Type 0} (w : Ways D J P) (carries : L → List LinkEvent)
    (id moment : ℕ) (old : HeldDocument D J P L) (event : Event P) (before : Heard D J P L)
    (ended : ℕ) (new : HeldDocument D J P L) (after : Heard D J P L) : Type 0 where
  pub outs : Outs J
  pub mid : HeldDocument D J P L
  pub step : HeldStep w moment old (Did event outs) (owing mid (todo_of outs))
  pub done : Passes w carries id moment mid (todo_of outs) before ended new [] after
  pub settled : new.todo ≡ []

-- an event gave something out, and some of that was done
pub record CutOff {D J P L : Type 0} (w : Ways D J P) (carries : L → List LinkEvent)
    (id moment : ℕ) (old : HeldDocument D J P L) (before after : Heard D J P L) : Type 0 where
  pub event : Event P
  pub outs : Outs J
  pub mid : HeldDocument D J P L
  pub step : HeldStep w moment old (Did event outs) (owing mid (todo_of outs))
  pub done : Stops w carries id moment mid (todo_of outs) before after

-- nothing happened, or an event whose outputs were done in part
abbrev pub Broke : {D J P L : Type 0} → Ways D J P → (L → List LinkEvent) → (id moment : ℕ)
    → HeldDocument D J P L → Heard D J P L → Heard D J P L → Type 0
Broke w carries id moment old before after =
    (after ≡ before) ⊎ CutOff w carries id moment old before after

-- this event befell the document, or, out of memory, the call broke off
abbrev pub Befalls : {D J P L : Type 0} → Ways D J P → (L → List LinkEvent) → (id moment : ℕ)
    → HeldDocument D J P L → Event P → Heard D J P L → Result ℕ Memory → HeldDocument D J P L
    → Heard D J P L → Type 0
Befalls w carries id moment old event before (Ok ended) new after =
    Befell w carries id moment old event before ended new after
Befalls w carries id moment old event before (Err memory) new after =
    Broke w carries id moment old before after

-- the same of a turn, which tells whether it did a work
abbrev pub Turns : {D J P L : Type 0} → Ways D J P → (L → List LinkEvent) → (id moment : ℕ)
    → HeldDocument D J P L → Heard D J P L → Result (Bool × ℕ) Memory → HeldDocument D J P L
    → Heard D J P L → Type 0
Turns w carries id moment old before (Ok p) new after =
    Befell w carries id moment old (Turned p.0) before p.1 new after
Turns w carries id moment old before (Err memory) new after =
    Broke w carries id moment old before after
