-- The parcels themselves, over a run of calls of one `HallState`.
use Rattle.std.specs.Prelude.{◌≡◌, ◌≢◌, ℕ, List, [], ◌∷◌}
use Rattle.hall_machine.specs.declared.words.Label.{Label}
use Rattle.hall_machine.specs.declared.words.Entered.{Entered}
use Rattle.hall_machine.specs.declared.words.OpenDocument.{OpenDocument}
use Rattle.hall_machine.specs.Ids.{AreRising}
use Rattle.hall_machine.specs.States.{sights, EntersOne, Posts, Collects, Departs, Arrives, Closes}

-- what a call that was not refused did, with the values that it handed over
pub data Deed (P M : Type 0) : Type 0 where
  entered : ℕ → List ℕ → Entered → Deed P M
  posted : ℕ → M → Deed P M
  collected : ℕ → List M → Deed P M
  departed : ℕ → ℕ → P → Deed P M
  arrived : ℕ → ℕ → P → Deed P M
  closed : ℕ → Deed P M

-- what it did to the open documents
abbrev pub Does : {P M : Type 0} → Deed P M → List (OpenDocument P M) → List (OpenDocument P M)
    → Type 0
Does (entered who file e) old new = EntersOne who file e old new
Does (posted doc mail) old new = Posts doc mail old new
Does (collected doc bag) old new = Collects doc bag old new
Does (departed doc to parcel) old new = Departs doc to parcel old new
Does (arrived who doc parcel) old new = Arrives who doc parcel old new
Does (closed doc) old new = Closes doc old new

-- the ids of the open documents rise, as they do in each state of a hall
abbrev pub AreSorted : {P M : Type 0} → (M → Label) → List (OpenDocument P M) → Type 0
AreSorted {P} {M} tag opens = (next : ℕ) × AreRising 0 (sights tag opens) next

-- a run of calls
abbrev pub Runs : {P M : Type 0} → (M → Label) → List (OpenDocument P M) → List (Deed P M)
    → List (OpenDocument P M) → Type 0
Runs {P} {M} tag old [] new = new ≡ old
Runs {P} {M} tag old (d ∷ ds) new = (mid : List (OpenDocument P M)) × Does d old mid
    × AreSorted tag mid × Runs tag mid ds new

-- none of these calls departs, takes in or closes this document
abbrev pub Leaves : {P M : Type 0} → ℕ → List (Deed P M) → Type 0
Leaves doc [] = Unit {0}
Leaves doc (entered who file e ∷ ds) = Leaves doc ds
Leaves doc (posted d mail ∷ ds) = Leaves doc ds
Leaves doc (collected d bag ∷ ds) = Leaves doc ds
Leaves doc (departed d to parcel ∷ ds) = (d ≢ doc) × Leaves doc ds
Leaves doc (arrived who d parcel ∷ ds) = (d ≢ doc) × Leaves doc ds
Leaves doc (closed d ∷ ds) = (d ≢ doc) × Leaves doc ds
