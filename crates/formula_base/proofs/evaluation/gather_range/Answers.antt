use Rattle.std.proofs.Common.{◌≤◌, length, map, arith}
use Rattle.formula_base.specs.Ranges.{cells_between}
use Rattle.formula_base.proofs.GatherLaws.{gathered_done}
use Rattle.formula_base.proofs.evaluation.gather_range.Goals as goal

pub returns : goal.returns
returns g c =
    let items = c.deref-value-items.result.now in
    let all : length items ≤ c.loop-value.value-index = omega arith in
    gathered_done c.args.gathered.now c.loop-value.gathered items c.in_ok-values.values.items (map (g.L.Lookup.value_at c.args.lookup.now) (cells_between c.args.first c.args.last)) c.loop-value.value-index
    all c.loop-value.invariant c.deref-value-items.ensures.value c.in_ok-values.ensures
