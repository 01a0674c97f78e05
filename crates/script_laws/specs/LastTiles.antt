-- The last tile of a key that a view was sent, and what it shows.
use Rattle.std.specs.Prelude.{ℕ, ◌≡◌, ⊤, ◌&&◌, nat_eq, List, [], ◌∷◌, length, Option, None, Some, if◌then◌else◌}
use Rattle.std.specs.List.{AllByRecursion}
use Rattle.cool_base.specs.declared.ids.ViewId.{ViewId}
use Rattle.cool_frame.specs.declared.frame.Frame.{Frame}
use Rattle.cool_frame.specs.declared.frame.Frame.TheVariants.{Tile}
use Rattle.document_machine.specs.Due.{keys}
use Rattle.document_machine.specs.Held.{Held}
use Rattle.document_machine.specs.State.{View, Document}
use Rattle.kit_trait.specs.Rules.{Rules, doc, shown}
use Rattle.tile_key.specs.Places.{Place, same_place}

-- the version and the pixels of the frame, if it is a tile of the key to the view
abbrev pub tile_in : ℕ → Place → ViewId × Frame → Option (ℕ × List ℕ)
tile_in id key (to, Tile other version wid rgba) = if nat_eq to.0 id && same_place other key then Some (version, rgba) else None
tile_in id key _ = None

-- the later one, where there is one
abbrev pub later_one : {X : Type 0} → (later earlier : Option X) → Option X
later_one None earlier = earlier
later_one (Some x) earlier = Some x

-- the version and the pixels of the last tile of the key to the view
abbrev pub last_tile : ℕ → Place → List (ViewId × Frame) → Option (ℕ × List ℕ)
last_tile id key [] = None
last_tile id key (given ∷ frames) = later_one (last_tile id key frames) (tile_in id key given)

-- of the frames the last tile of the key to the view has the pixels of the document painted from scratch: after all
-- accepted inputs
abbrev pub IsPainted : {C B S : Type 0} → Rules C B → Document S → List (ViewId × Frame) → View → Place → Type 0
IsPainted rules d frames view key = (version : ℕ) × (rgba : List ℕ)
    × (last_tile view.id key frames ≡ Some (version, rgba))
    × (rgba ≡ (shown rules (doc rules d.base d.journal (length d.journal)) key).rgba)

-- the same of each key that a view of the document sees or asked for, if there is a document
abbrev pub ArePainted : {C B S : Type 0} → Rules C B → Option (Held S) → List (ViewId × Frame) → Type 0
ArePainted rules None frames = ⊤
ArePainted rules (Some held) frames = AllByRecursion
    (λ view. AllByRecursion (IsPainted rules held.document frames view) (keys rules held.document view)) held.document.views
