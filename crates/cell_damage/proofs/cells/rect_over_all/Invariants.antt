use Rattle.std.proofs.Common.{◌≡◌, ◌∷◌, List, length, map}
use Rattle.std.specs.List.{AllByRecursion}
use Rattle.cool_base.specs.Points.{Rectangle}
use Rattle.cell_damage.specs.Rectangles.{rect_over_all}
use Rattle.cell_damage.specs.Cells.{IsInReach, stretches, rect_of}
use Rattle.cell_damage.proofs.cells.rect_over_all.Given as goal

abbrev pub invariant-loop-rest : goal.invariant-loop-rest
invariant-loop-rest l = record {
  told : (s : Rectangle) (ss : List Rectangle) → map rect_of (stretches l.cells) ≡ s ∷ ss → rect_over_all l.over (map rect_of (stretches l.rest)) ≡ rect_over_all s ss;
  cells : AllByRecursion IsInReach l.rest;
}

abbrev pub decreases-loop-rest : goal.decreases-loop-rest
decreases-loop-rest l = length l.rest
