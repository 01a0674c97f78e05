-- What a house of brokers holds.
use Rattle.std.specs.Prelude.{◌≡◌, ◌<◌, ℕ, Bool, true, false, List, length, get_or, Option, Some}
use Rattle.std.specs.Option.{option_map_or}
use Rattle.document_machine.specs.Held.{Held}
use Rattle.document_machine.specs.State.{is_live}
use Rattle.kit_trait.specs.declared.jobs.PaintJob.{PaintJob}
use Rattle.poll_instance.specs.Instance.{Painting}
use Rattle.poll_machine.specs.Agenda.{HeldDocument}
use Rattle.poll_machine.specs.House.{House, Slot, Live, Refused, Refusal, view_in}
use Rattle.poll_documents.specs.declared.lodged.Kept.{Kept}
use Rattle.poll_documents.specs.declared.lodged.Kept.TheVariants as kept

-- what is held under an id
abbrev pub slot_in : {D J P L : Type 0} → Kept (HeldDocument D J P L) Refusal → Slot D J P L
slot_in (kept.Live held) = Live held
slot_in (kept.Refused file refusal) = Refused file refusal

-- a house whose documents have brokers with such scenes, and what it holds
abbrev pub BrokersHouse : Type 0 → Type 0 → Type 0
BrokersHouse S L = House (Option (Held S)) (PaintJob S) (Painting S) L

abbrev pub BrokersDocs : Type 0 → Type 0 → Type 0
BrokersDocs S L = List (ℕ × Slot (Option (Held S)) (PaintJob S) (Painting S) L)

abbrev pub BrokersSlot : Type 0 → Type 0 → Type 0
BrokersSlot S L = Slot (Option (Held S)) (PaintJob S) (Painting S) L

-- whether a document is held
abbrev pub is_live_slot : {D J P L : Type 0} → Slot D J P L → Bool
is_live_slot (Live held) = true
is_live_slot (Refused file refusal) = false

-- at this place stands the document of which the link is this view
pub record IsPlace {D J P L : Type 0} (docs : List (ℕ
    × Slot D J P L)) (link i view : ℕ) : Type 0 where
  pub within : i < length docs
  pub found : (p : ℕ × Slot D J P L) → p ≡ get_or docs i p
      → (view_in docs link ≡ Some (p.0, view)) × (is_live_slot p.1 ≡ true)

-- whether a document is held of whose broker this is a view
abbrev pub has_view : {S J P L : Type 0} → Slot (Option (Held S)) J P L → ℕ → Bool
has_view (Live h) view = option_map_or (λ held. is_live held.document.views view) h.doc false
has_view (Refused file refusal) view = false
