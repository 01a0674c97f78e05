-- What a poll knows of a document: its events, what they give out, and how it steps.
use Rattle.std.specs.Prelude.{ℕ, Bool, List, [], Option, Result}
use Rattle.document_machine.specs.declared.rights.Rights.{Rights}
use Rattle.outside.specs.declared.errands.Errand.{Errand}
use Rattle.outside.specs.declared.errands.Receipt.{Receipt}
use Rattle.outside.specs.declared.faults.StoreFault.{StoreFault}

-- the events of one document, where P is what a painter gives back; a turn tells whether it did a
-- work
pub data Event (P : Type 0) : Type 0 where
  Joined : (rights : Rights) → Event P
  Left : (view : ℕ) → Event P
  Said : (view : ℕ) (text : List ℕ) → Event P
  Turned : (worked : Bool) → Event P
  Painted : (result : P) → Event P
  PutAnswered : (ticket : ℕ) (answer : Result Receipt StoreFault) → Event P

-- a work that a document gives out: tiles to paint, or a content to store
pub data Work (J : Type 0) : Type 0 where
  Paint : (job : J) → Work J
  Put : (errand : Errand) → Work J

-- what an event gives out, in order: frames as bytes, each to one view, and works
pub record Outs (J : Type 0) : Type 0 where
  pub frames : List (ℕ × List ℕ)
  pub works : List (Work J)

-- nothing is given out
abbrev pub nothing : {J : Type 0} → Outs J
nothing = record { frames = []; works = [] }

-- what comes back of a work
pub data Answer (P : Type 0) : Type 0 where
  PaintDone : (result : P) → Answer P
  PutDone : (ticket : ℕ) (answer : Result Receipt StoreFault) → Answer P

-- the event that an answer is
abbrev pub event_of : {P : Type 0} → Answer P → Event P
event_of (PaintDone result) = Painted result
event_of (PutDone ticket answer) = PutAnswered ticket answer

-- a kind of document: how an address names a file and a token; the document as it is loaded, where
-- the file is accepted; its steps; what painting a job gives, and its ticket; the id of the next
-- view; whether it has all the views that it may have; whether it is done, and lost where it is;
-- and the token of the lock that an answer to its put gives it, where it takes a receipt
pub record Ways (D J P : Type 0) : Type 1 where
  pub address : List ℕ → Option (List ℕ × List ℕ)
  pub opening : (file bytes : List ℕ) → Option D
  pub Steps : D → Event P → Outs J → D → Type 0
  pub paints : J → P
  pub ticket_of : P → ℕ
  pub next_view : D → ℕ
  pub is_full : D → Bool
  pub is_done : D → Bool
  pub is_lost : D → Bool
  pub lock_of : D → ℕ → Result Receipt StoreFault → Option (List ℕ)

-- one move of a document alone: an event with what it gave out
abbrev pub Moves : {D J P : Type 0} → Ways D J P → D → Event P × Outs J → D → Type 0
Moves w old move new = w.Steps old move.0 move.1 new
