-- A link joins a document, and the links of a document's views are packed.
use Rattle.std.specs.Prelude.{◌≡◌, ℕ, ◌+◌, true, false, List, ◌∷◌}
use Rattle.std.specs.Prelude.{[], Option, None, Some, Result}
use Rattle.std.specs.Prelude.{Ok, Err, ⊤}
use Rattle.std.specs.List.{AllByRecursion}
use Rattle.cool_base.specs.declared.want.Memory.{Memory}
use Rattle.document_machine.specs.declared.rights.Rights.{Rights}
use Rattle.net_traits.specs.Nets.{LinkEvent}
use Rattle.poll_machine.specs.Words.{Ways}
use Rattle.poll_machine.specs.Agenda.{HeldDocument, HeldStep, Here, Adopts, Joins, Leaves, Releases}
use Rattle.poll_machine.specs.Agenda.{ViewLink, without_view}
use Rattle.poll_machine.specs.House.{At, House, Happens, OfDoc, Slot, Live, Refused}
use Rattle.poll_machine.specs.House.{Refusal}
use Rattle.poll_machine.specs.House.{without_link}
use Rattle.poll_machine.specs.Lobby.{happens_to}
use Rattle.poll_machine.specs.Lobby.{here_now, settles}
use Rattle.poll_machine.specs.Plans.{Plan, Then, Learns, each}
use Rattle.poll_machine.specs.Project.{HeldMove}
use Rattle.poll_machine.specs.Runs.{Run}
use Rattle.poll_machine.specs.Told.{Heard, Hears}
use Rattle.poll_documents.specs.Doing.{Does, in_house}
use Rattle.poll_documents.specs.Settling.{KeepsLobby, at_house, ended_by, timed}

-- a link of the lobby joined, so it waits there no more; or the document has all the views that it
-- may have, and nothing happened; or, out of memory, a part of the join was done
abbrev pub JoinsIn : {D J P L : Type 0} → Ways D J P → (L → List LinkEvent) → House D J P L
    → ℕ → (link : ℕ) → Rights → List (ℕ × Slot D J P L) → HeldDocument D J P L
    → List (ℕ × Slot D J P L) → Heard D J P L → Result (Option ℕ) Memory → Slot D J P L
    → Heard D J P L → Type 0
JoinsIn w carries house id link rights front old back before (Ok (Some ended)) new after =
    Does w carries (happens_to id (λ outs. Joins link rights outs))
    (in_house house front (id, Live old) back house.ended) before ⊤ false
    (record (in_house house front (id, new) back (house.ended + ended)) {
      lobby = without_link link house.lobby;
    })
    after
JoinsIn w carries house id link rights front old back before (Ok None) new after =
    (w.is_full old.doc ≡ true) × (new ≡ Live old) × (after ≡ before)
JoinsIn w carries house id link rights front old back before (Err memory) new after =
    Does w carries (happens_to id (λ outs. Joins link rights outs))
    (in_house house front (id, Live old) back house.ended) before ⊥ false
    (in_house house front (id, Live old) back house.ended) after

-- the link of each view of a document is released, in order, and a view whose link the net had no
-- longer leaves
abbrev pub packs : {D J P L : Type 0} → ℕ → HeldDocument D J P L
    → Plan (House D J P L) (Happens D J P L)
packs {D} {J} {P} {L} id h = each (λ s. Learns
    (λ (gave : Option L). Then (here_now id (Releases s.view s.link gave)) (settles id))) h.views

-- the answer that a refused load keeps
abbrev pub refusal_of : {D J P L : Type 0} → Slot D J P L → Option Refusal
refusal_of (Live h) = None
refusal_of (Refused file refusal) = Some refusal

-- what happens to a document by the release of a view's link: a view whose link the net had no
-- longer leaves
abbrev pub release_of : {J P L : Type 0} → ViewLink → Option L → List (Here J P L)
release_of pair (Some carried) = Releases pair.view pair.link (Some carried) ∷ []
release_of pair None = Releases pair.view pair.link None ∷ Leaves pair.view ∷ []

-- out of memory: some steps of the document were made, for exactly which the outside was called and
-- which leave the lobby, and it goes no further
abbrev pub CutShort : {D J P L : Type 0} → Ways D J P → (L → List LinkEvent) → (id moment : ℕ)
    → HeldDocument D J P L → Heard D J P L → Heard D J P L → Type 0
CutShort {D} {J} {P} {L} w carries id moment old before after =
    (heres : List (Here J P L)) × (last : HeldDocument D J P L)
    × Run (HeldMove w) old (timed moment heres) last
    × Hears w carries before (at_house id moment heres) after
    × ((links : List ℕ) → AllByRecursion (KeepsLobby D links) heres)

-- the link of this view was released: it is packed, or the view left, and so many links ended
pub record ViewPacked {D J P L : Type 0} (w : Ways D J P) (carries : L → List LinkEvent)
    (id moment : ℕ) (old : HeldDocument D J P L) (pair : ViewLink) (before : Heard D J P L)
    (ended : ℕ) (new : HeldDocument D J P L) (after : Heard D J P L) : Type 0 where
  pub gave : Option L
  pub views : new.views ≡ without_view old.views pair.view
  pub run : Run (HeldMove w) old (timed moment (release_of pair gave)) new
  pub heard : Hears w carries before (at_house id moment (release_of pair gave)) after
  pub counted : ended_by D {J = J} {P = P} (release_of pair gave) ≡ ended

-- the same where the call was fine; out of memory, it was cut short
abbrev pub PacksView : {D J P L : Type 0} → Ways D J P → (L → List LinkEvent) → (id moment : ℕ)
    → HeldDocument D J P L → ViewLink → Heard D J P L → Result ℕ Memory → HeldDocument D J P L
    → Heard D J P L → Type 0
PacksView w carries id moment old pair before (Ok ended) new after =
    ViewPacked w carries id moment old pair before ended new after
PacksView w carries id moment old pair before (Err memory) new after =
    CutShort w carries id moment old before after

-- the link of the view that came first was released: it is packed, or the view left, and so many
-- links ended
pub record FirstPacked {D J P L : Type 0} (w : Ways D J P) (carries : L → List LinkEvent)
    (id moment : ℕ) (old : HeldDocument D J P L) (before : Heard D J P L) (ended : ℕ)
    (new : HeldDocument D J P L) (after : Heard D J P L) : Type 0 where
  pub pair : ViewLink
  pub gave : Option L
  pub views : old.views ≡ pair ∷ new.views
  pub run : Run (HeldMove w) old (timed moment (release_of pair gave)) new
  pub heard : Hears w carries before (at_house id moment (release_of pair gave)) after
  pub counted : ended_by D {J = J} {P = P} (release_of pair gave) ≡ ended

-- the same where the call was fine; out of memory, it was cut short
abbrev pub PacksFirst : {D J P L : Type 0} → Ways D J P → (L → List LinkEvent) → (id moment : ℕ)
    → HeldDocument D J P L → Heard D J P L → Result ℕ Memory → HeldDocument D J P L
    → Heard D J P L → Type 0
PacksFirst w carries id moment old before (Ok ended) new after =
    FirstPacked w carries id moment old before ended new after
PacksFirst w carries id moment old before (Err memory) new after =
    CutShort w carries id moment old before after

-- the link that was packed first is named and is the link of its view, and the net was called for
-- exactly that
pub record FirstAdopted {D J P L : Type 0} (w : Ways D J P) (carries : L → List LinkEvent)
    (id moment : ℕ) (old : HeldDocument D J P L) (before : Heard D J P L)
    (new : HeldDocument D J P L) (after : Heard D J P L) : Type 0 where
  pub view : ℕ
  pub carried : L
  pub link : ℕ
  pub packed : old.packed ≡ (view, carried) ∷ new.packed
  pub step : HeldStep w moment old (Adopts view carried link) new
  pub heard : Hears w carries before (OfDoc id moment (At (Adopts view carried link)) ∷ []) after

-- the same where the call was fine; out of memory, it was cut short
abbrev pub AdoptsFirst : {D J P L : Type 0} → Ways D J P → (L → List LinkEvent) → (id moment : ℕ)
    → HeldDocument D J P L → Heard D J P L → Result (Unit {0}) Memory → HeldDocument D J P L
    → Heard D J P L → Type 0
AdoptsFirst w carries id moment old before (Ok u) new after =
    FirstAdopted w carries id moment old before new after
AdoptsFirst w carries id moment old before (Err memory) new after =
    CutShort w carries id moment old before after
