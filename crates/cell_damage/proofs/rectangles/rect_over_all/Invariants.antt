use Rattle.std.proofs.Common.{◌≡◌, fold, take}
use Rattle.cell_damage.specs.Rectangles.{rect_over}
use Rattle.cell_damage.proofs.rectangles.rect_over_all.Given as goal

abbrev pub invariant-loop-rect : goal.invariant-loop-rect
invariant-loop-rect l = l.over ≡ fold rect_over l.fn.first (take l.rect-index l.others)
