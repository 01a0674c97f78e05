-- The state of the hall as the contracts of its calls see it, and what each call does.
use Rattle.std.specs.Prelude.{◌≡◌, ℕ, ◌+◌, ◌≤◌, ◌⊎◌, Some, Result, Ok, Err, List, [], ◌∷◌, ◌++◌}
use Rattle.std.specs.Prelude.{length, map, drop, take, slice_set}
use Rattle.std.specs.List.{slice_get, remove}
use Rattle.hall_machine.specs.declared.words.Label.{Label}
use Rattle.hall_machine.specs.declared.words.Ground.{Ground}
use Rattle.hall_machine.specs.declared.words.Entry.{Entry}
use Rattle.hall_machine.specs.declared.words.Holder.{Holder}
use Rattle.hall_machine.specs.declared.words.Holder.TheVariants.{At, To}
use Rattle.hall_machine.specs.declared.words.OpenDocument.{OpenDocument}
use Rattle.hall_machine.specs.declared.words.Refused.{Refused}
use Rattle.hall_machine.specs.declared.words.HallFault.{HallFault}
use Rattle.hall_machine.specs.declared.words.Entered.{Entered}
use Rattle.hall_machine.specs.declared.words.Entered.TheVariants.{There, Fresh}
use Rattle.hall_machine.specs.Machine.{Where, at, bound, Desk, Stage, owed}
use Rattle.hall_machine.specs.Entries.{stage_of, IsLegal}

-- what contracts see of a hall: its ground, the open documents with the mails and parcels
-- themselves, and the book
pub record HallView (P M : Type 0) : Type 0 where
  pub ground_of : Ground
  pub opens : List (OpenDocument P M)
  pub book : List Entry

-- which poll has a document
abbrev pub where_of : {P : Type 0} → Holder P → Where
where_of (At p) = at p
where_of (To p parcel) = bound p

-- an open document as the machine has it: its mails by their labels
abbrev pub sight : {P M : Type 0} → (M → Label) → OpenDocument P M → Desk
sight tag o = record {
  doc = o.doc;
  file = o.file;
  holder = where_of o.holder;
  mails = map tag o.mails;
}

abbrev pub sights : {P M : Type 0} → (M → Label) → List (OpenDocument P M) → List Desk
sights tag opens = map (sight tag) opens

-- the state of the machine: the open documents as it has them
abbrev pub staged : {P M : Type 0} → (M → Label) → ℕ → List (OpenDocument P M) → ℕ → Stage
staged tag next opens entries = record { next = next; desks = sights tag opens; entries = entries }

-- The state is what the machine reaches by the book, and the book is legal. The room left in the
-- book is enough for all that is owed
pub record IsKept {P M : Type 0} (tag : M → Label) (g : Ground) (next : ℕ)
    (opens : List (OpenDocument P M)) (due : ℕ) (entries : List Entry) (capacity : ℕ) : Type 0 where
  pub legal : IsLegal g entries
  pub reached : stage_of entries ≡ staged tag next opens (length entries)
  pub due_is : due ≡ owed (sights tag opens)
  pub room : length entries + due ≤ g.room
  pub held : g.room ≤ capacity
  pub ids : next ≤ length entries
  pub few : length opens ≤ 64
  pub polls : (1 ≤ g.polls) × (g.polls ≤ 64)
  pub bounds : (16384 ≤ g.room) × (g.room ≤ 4194304)

-- one call: in the state that the found book reaches it answers what the machine answers, and the
-- book that it leaves is the machine's; the found book is legal
pub record Answers {R : Type 0} (g : Ground) (found : List Entry) (says : R) (writes : List Entry)
    (result : R) (left : List Entry) : Type 0 where
  pub legal : IsLegal g found
  pub answer : result ≡ says
  pub book : left ≡ writes

-- the book that a call writes has one entry more than the one that it found
abbrev pub AddsEntry : List Entry → List Entry → Type 0
AddsEntry found writes = (e : Entry) × (writes ≡ found ++ e ∷ [])

-- the same of a call that takes memory: or it answers that it is out of memory, and the book stays. That
-- is only where the machine writes an entry: what the machine refuses, and what it answers without an
-- entry, is never answered so
pub record AnswersOrLacks {R : Type 0} (g : Ground) (found : List Entry) (says : R)
    (writes : List Entry) (no_memory : R) (result : R) (left : List Entry) : Type 0 where
  pub legal : IsLegal g found
  pub call : ((result ≡ says) × (left ≡ writes)) ⊎ ((result ≡ no_memory) × (left ≡ found))
  pub lacks : result ≡ no_memory → AddsEntry found writes

-- a refusal with the value that was handed in
abbrev pub refused : {X : Type 0} → HallFault → X → Refused X
refused why x = record { why = why; value = x }

-- an answer whose refusal hands the value back
abbrev pub with_value : {X : Type 0} → X → Result (Unit {0}) HallFault
    → Result (Unit {0}) (Refused X)
with_value x (Ok u) = Ok u
with_value x (Err why) = Err (refused why x)

-- what one call does to the open documents: the one at a place, with this id, is changed
pub record Changes {P M : Type 0} (doc : ℕ) (old new : List (OpenDocument P M))
    (found made : OpenDocument P M) : Type 0 where
  pub place : ℕ
  pub was : slice_get old place ≡ Some found
  pub id : found.doc ≡ doc
  pub is : new ≡ slice_set old place made

-- a post puts the very mail behind the others
abbrev pub Posts : {P M : Type 0} → ℕ → M → List (OpenDocument P M) → List (OpenDocument P M)
    → Type 0
Posts {P} {M} doc mail old new = (o : OpenDocument P M)
    × Changes doc old new o (record o { mails = o.mails ++ mail ∷ [] })

-- an enter changes the open documents where its document is new
abbrev pub EntersOne : {P M : Type 0} → ℕ → List ℕ → Entered → List (OpenDocument P M)
    → List (OpenDocument P M) → Type 0
EntersOne {P} {M} who file (There d) old new = new ≡ old
EntersOne {P} {M} who file (Fresh d) old new = new ≡ old
    ++ record { doc = d.0; file = file; holder = At who; mails = [] } ∷ []

-- a collect takes the oldest mails, at most 64, into the bag, in order
abbrev pub Collects : {P M : Type 0} → ℕ → List M → List (OpenDocument P M)
    → List (OpenDocument P M) → Type 0
Collects {P} {M} doc bag old new = (o : OpenDocument P M)
    × Changes doc old new o (record o { mails = drop 64 o.mails }) × (bag ≡ take 64 o.mails)

-- a departing document is on its way with the very parcel
abbrev pub Departs : {P M : Type 0} → ℕ → ℕ → P → List (OpenDocument P M) → List (OpenDocument P M)
    → Type 0
Departs {P} {M} doc to parcel old new = (o : OpenDocument P M)
    × Changes doc old new o (record o { holder = To to parcel })

-- an arrive gives the very parcel that was on its way to the caller, who then owns the document
abbrev pub Arrives : {P M : Type 0} → ℕ → ℕ → P → List (OpenDocument P M) → List (OpenDocument P M)
    → Type 0
Arrives {P} {M} who doc parcel old new = (o : OpenDocument P M)
    × Changes doc old new o (record o { holder = At who }) × (o.holder ≡ To who parcel)

-- a closed document is open no more, and nothing waited for it
abbrev pub Closes : {P M : Type 0} → ℕ → List (OpenDocument P M) → List (OpenDocument P M) → Type 0
Closes {P} {M} doc old new = (i : ℕ) × (o : OpenDocument P M) × (slice_get old i ≡ Some o)
    × (o.doc ≡ doc) × (o.mails ≡ []) × (new ≡ remove old i)
