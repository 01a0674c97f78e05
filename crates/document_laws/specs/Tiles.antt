-- What a tile shows, which number it has, and that a screen goes on.
use Rattle.std.specs.Prelude.{◌≡◌, ⊤, ◌⊎◌, ℕ, zero, suc, ◌+◌, ◌≤◌, true, false, ◌&&◌, nat_eq, List, [], ◌∷◌, Some, None, if◌then◌else◌}
use Rattle.std.specs.List.{flat_map, AllByRecursion}
use Rattle.cool_base.specs.declared.ids.ViewId.{ViewId}
use Rattle.cool_frame.specs.declared.frame.Frame.{Frame}
use Rattle.cool_frame.specs.declared.frame.Frame.TheVariants.{Tile}
use Rattle.kit_trait.specs.Rules.{Rules, doc, shown}
use Rattle.kit_trait.specs.declared.values.Input.{Input}
use Rattle.tile_key.specs.Places.{Place, same_place}
use Rattle.document_machine.specs.Due.{is_not_back, sees_or_asks, version_of}
use Rattle.document_machine.specs.Event.{Event}
use Rattle.document_machine.specs.State.{View, Document, find_view}
use Rattle.document_machine.specs.Step.{Step}
use Rattle.document_machine.specs.declared.outs.Outs.{Outs}

-- a tile shows the document after as many inputs as its version says, at most so many
abbrev pub IsShown : {C B : Type 0} → Rules C B → (base : List ℕ) → (journal : List Input)
    → (most : ℕ) → ViewId × Frame → Type 0
IsShown rules base journal most (view, Tile key version wid rgba) =
    (version ≤ most) × (rgba ≡ (shown rules (doc rules base journal version) key).rgba)
IsShown rules base journal most _ = ⊤

-- what a view was sent of a key is, later, no older, as long as its screen has the key
abbrev pub IsNoStepBack : (old new : View) → Type 0
IsNoStepBack old new =
    (key : Place) (had has : ℕ) → version_of old.screen key ≡ Some had
    → version_of new.screen key ≡ Some has → had ≤ has

-- the number of a tile that goes to the view, and none of another frame
abbrev pub number_in : ℕ → ViewId × Frame → List ℕ
number_in id (to, Tile key version wid rgba) = if nat_eq to.0 id then wid.0 ∷ [] else []
number_in id _ = []

-- the numbers of the tiles that go to the view, in order
abbrev pub numbers_to : ℕ → List (ViewId × Frame) → List ℕ
numbers_to id frames = flat_map (number_in id) frames

-- so many numbers from one on
abbrev pub counted : (from count : ℕ) → List ℕ
counted from zero = []
counted from (suc count) = from ∷ counted (from + 1) count

-- the tiles that go to the view have its next numbers, one after the other, and its next one is
-- behind them
pub record AreNumbered (id : ℕ) (old new : View) (frames : List (ViewId × Frame)) : Type 0 where
  pub count : ℕ
  pub numbers : numbers_to id frames ≡ counted old.next_wid count
  pub next : new.next_wid ≡ old.next_wid + count

-- the version of a tile of the key that goes to the view, and none of another frame
abbrev pub version_in : ℕ → Place → ViewId × Frame → List ℕ
version_in id key (to, Tile shown version wid rgba) =
    if nat_eq to.0 id && same_place shown key then version ∷ [] else []
version_in id key _ = []

-- the versions of the tiles of the key that go to the view, in order
abbrev pub versions_to : ℕ → Place → List (ViewId × Frame) → List ℕ
versions_to id key frames = flat_map (version_in id key) frames

-- a screen has this version of the key, or nothing of it, and its view neither sees the key nor
-- asks for it
abbrev pub IsOnScreen : {C B S : Type 0} → Rules C B → Document S → View → Place → (version : ℕ)
    → Type 0
IsOnScreen rules d view key version =
    (version_of view.screen key ≡ Some version)
    ⊎ ((version_of view.screen key ≡ None) × (sees_or_asks rules d view key ≡ false))

-- tiles of a key that go to a view: the view is there before and after them; none of them is a step
-- back on the screen that it had, and each is what its screen then has
pub record AreDelivered {C B S : Type 0} (rules : Rules C B) (old new : Document S) (id : ℕ)
    (key : Place) (versions : List ℕ) : Type 0 where
  pub before : View
  pub later : View
  pub was : find_view old.views id ≡ Some before
  pub is : find_view new.views id ≡ Some later
  pub no_step_back : AllByRecursion
      (λ n. is_not_back (version_of before.screen key) n ≡ true) versions
  pub on_screen : AllByRecursion (IsOnScreen rules new later key) versions

-- the screen of a view has the key
abbrev pub HasKey : {S : Type 0} → ℕ → Place → Document S → Type 0
HasKey id key d =
    (view : View) × (version : ℕ) × (find_view d.views id ≡ Some view)
    × (version_of view.screen key ≡ Some version)

-- a step of the machine after which the screen of a view has the key
abbrev pub StepsWith : {C B S : Type 0} → Rules C B → (C → Place → S) → ℕ → Place
    → Document S → Event S → Outs S → Document S → Type 0
StepsWith rules cut id key old event outs new =
    Step rules cut old event outs new × HasKey id key new
