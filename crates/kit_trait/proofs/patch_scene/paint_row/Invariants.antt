use Rattle.std.proofs.Common.{◌≡◌, ◌++◌}
use Rattle.kit_trait.specs.Pictures.{row, y_at}
use Rattle.kit_trait.specs.Patch.{colour_of}
use Rattle.kit_trait.proofs.patch_scene.paint_row.Given as goal

abbrev pub invariant-loop-i : goal.invariant-loop-i
invariant-loop-i l = record {
  painted : l.rgba.items ≡ l.initial.rgba.items ++ row (colour_of l.squares) l.area l.j l.i;
  row_y : l.y ≡ y_at l.area l.j;
}
