-- What contracts see of a `PatchKit` and of its scenes.
use Rattle.kit_trait.specs.declared.patch.PatchKit.{PatchKit}
use Rattle.kit_trait.specs.declared.patch_scene.PatchScene.{PatchScene}
use Rattle.tile_key.specs.Places.{Place}
use Rattle.kit_trait.specs.declared.values.Pixels.{Pixels}
use Rattle.kit_trait.specs.Pictures.{picture}
use Rattle.kit_trait.specs.Patch.{Patches, colour_of}

-- what a patch kit holds
abbrev pub patches_of : PatchKit → Patches
patches_of kit = record { squares = kit.squares; chosen = kit.chosen.entries }

-- the picture of a scene
abbrev pub scene_picture : PatchScene → Pixels
scene_picture scene = picture (colour_of scene.squares) scene.area

-- the scene of a place: the place with all squares
abbrev pub patch_cut : Patches → Place → PatchScene
patch_cut c place = record { area = place; squares = c.squares }
