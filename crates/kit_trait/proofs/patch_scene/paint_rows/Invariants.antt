use Rattle.std.proofs.Common.{◌≡◌}
use Rattle.kit_trait.specs.Pictures.{rows}
use Rattle.kit_trait.specs.Patch.{colour_of}
use Rattle.kit_trait.proofs.patch_scene.paint_rows.Given as goal

abbrev pub invariant-loop-j : goal.invariant-loop-j
invariant-loop-j l = l.rgba.items ≡ rows (colour_of l.squares) l.area l.j
