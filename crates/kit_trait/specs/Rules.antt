-- What a kind of document is: plain functions on contents, and what they make of a file and inputs.
use Rattle.std.specs.Prelude.{◌≡◌, ℕ, ◌+◌, ◌<◌, ◌≤◌, Bool, true, ◌&&◌, nat_eq, List, [], ◌∷◌, take}
use Rattle.cool_base.specs.Points.{Extent, has_point}
use Rattle.tile_key.specs.Places.{Place}
use Rattle.kit_trait.specs.declared.values.Pixels.{Pixels}
use Rattle.kit_trait.specs.declared.values.Input.{Input}
use Rattle.kit_trait.specs.declared.values.Damage.{Damage}
use Rattle.kit_trait.specs.declared.values.KitName.{KitName}
use Rattle.kit_trait.specs.Pictures.{Colour, picture}

-- the functions of a kind of document, over its contents C and their body B
pub record Rules (C B : Type 0) : Type 0 where
  -- the kind
  pub name : KitName
  -- whether a file is one of this kind
  pub accepts : List ℕ → Bool
  -- the contents that a file gives
  pub start : List ℕ → C
  -- the contents after an input
  pub step : C → Input → C
  -- what the input damages
  pub hurt : C → Input → List Damage
  -- what is shown and saved of the contents
  pub body : C → B
  -- in the look that a number names, the colour of the point (x, y) of a part
  pub colour : B → (nviewid part x y : ℕ) → Colour
  -- the file of a body
  pub text : B → List ℕ
  -- the number of parts, and the size of each
  pub parts : B → ℕ
  pub size : B → ℕ → Extent

-- the contents after these inputs, one after another
abbrev pub after : {C B : Type 0} → Rules C B → C → List Input → C
after rules c [] = c
after rules c (input ∷ inputs) = after rules (rules.step c input) inputs

-- the document after the first n inputs of the journal, from the loaded file on
abbrev pub doc : {C B : Type 0} → Rules C B → List ℕ → List Input → ℕ → C
doc rules base journal n = after rules (rules.start base) (take n journal)

-- what a place shows, in its look
abbrev pub shown : {C B : Type 0} → Rules C B → C → Place → Pixels
shown rules c p = picture (rules.colour (rules.body c) p.nviewid) p

-- whether the damage has the point (x, y) of the part
abbrev pub hurts_point : Damage → ℕ → ℕ → ℕ → Bool
hurts_point d part x y = nat_eq d.part part && has_point d.rect x y

-- the damage lies inside its part
pub record IsWithin {C B : Type 0} (rules : Rules C B) (c : C) (d : Damage) : Type 0 where
  pub part : d.part < rules.parts (rules.body c)
  pub right : d.rect.x + d.rect.w ≤ (rules.size (rules.body c) d.part).w
  pub lower : d.rect.y + d.rect.h ≤ (rules.size (rules.body c) d.part).h

-- the file is one of this kind and has the body of the contents
pub record ReadsAs {C B : Type 0} (rules : Rules C B) (file : List ℕ) (c : C) : Type 0 where
  pub accepted : rules.accepts file ≡ true
  pub body : rules.body (rules.start file) ≡ rules.body c
