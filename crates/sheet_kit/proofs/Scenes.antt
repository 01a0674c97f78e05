-- The scene that is cut is that of the document.
use Rattle.std.proofs.Common.{◌≡◌, List, ap, ◌∙◌}
use Rattle.tile_key.specs.Places.{Place}
use Rattle.sheet_rules.specs.declared.cuts.ShownText.{ShownText}
use Rattle.sheet_rules.specs.Typing.{Sheet}
use Rattle.sheet_rules.specs.Cuts.{texts_of}
use Rattle.sheet_kit.specs.declared.scene.SheetScene.{SheetScene}
use Rattle.sheet_kit.specs.Seen.{sheet_cut}

scene_with : Place → List ShownText → SheetScene
scene_with place texts = record { area = place; texts = texts }

pub scene_is : (inside seen : Sheet) (place : Place) (texts : List ShownText) → texts ≡ texts_of inside.parts place → inside ≡ seen → ◌≡◌ {A = SheetScene} (record { area = place; texts = texts }) (sheet_cut seen place)
unfolding scene_with
scene_is inside seen place texts held same = ap (scene_with place) held ∙ ap (λ (s : Sheet). sheet_cut s place) same
