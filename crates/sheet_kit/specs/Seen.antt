-- What contracts see of scenes, and which scene a place has.
use Rattle.kit_trait.specs.declared.values.Pixels.{Pixels}
use Rattle.kit_trait.specs.Pictures.{picture}
use Rattle.tile_key.specs.Places.{Place}
use Rattle.sheet_rules.specs.Typing.{Sheet}
use Rattle.sheet_rules.specs.Colours.{has_lines}
use Rattle.sheet_rules.specs.Cuts.{texts_of, cut_colour}
use Rattle.sheet_kit.specs.declared.scene.SheetScene.{SheetScene}

-- the picture of a scene: its texts in its area, with lines or without
abbrev pub scene_picture : SheetScene → Pixels
scene_picture scene = picture (λ part. cut_colour (has_lines scene.area.nviewid) scene.texts) scene.area

-- the scene of a place: exactly the texts that the cells show which the place meets
abbrev pub sheet_cut : Sheet → Place → SheetScene
sheet_cut c place = record { area = place; texts = texts_of c.parts place }
