use Rattle.std.proofs.Common.{Bool, []}
use Rattle.formula_base.specs.Ranges.{Position}
use Rattle.part_calc.specs.Walking.{IsPushed, IsWalk}
use Rattle.part_calc.proofs.dependants.search.Given as goal

abbrev pub invariant-loop-step : goal.invariant-loop-step
invariant-loop-step l =
    (starts : Position → Bool) → IsPushed [] l.fn.visits.items starts → IsWalk l.index.entries starts l.fresh.entries l.visits.items l.ordered.items
