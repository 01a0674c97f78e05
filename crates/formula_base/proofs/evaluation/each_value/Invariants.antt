use Rattle.std.proofs.Common.{◌≡◌, take, map}
use Rattle.std.specs.List.{filter}
use Rattle.formula_base.specs.Gathering.{is_filled}
use Rattle.formula_base.proofs.evaluation.each_value.Given as goal

abbrev pub invariant-loop-position : goal.invariant-loop-position
invariant-loop-position g l = l.values.items ≡ filter is_filled (map (g.L.Lookup.value_at l.lookup) (take l.position-index l.position-items))
