use Rattle.std.proofs.Common.{◌≡◌, take}
use Rattle.std.specs.Prelude.{fold}
use Rattle.std.specs.List.{flat_map}
use Rattle.formula_base.specs.Gathering.{gathered}
use Rattle.formula_base.proofs.ExprLaws.{linked, values_of}
use Rattle.formula_base.proofs.evaluation.+eval.Given as goal

abbrev pub invariant-loop-link : goal.invariant-loop-link
invariant-loop-link g l =
    let look = g.L.Lookup.value_at l.lookup in
    l.left ≡ fold (linked look) l.initial.left (take l.link-index l.link-items)

abbrev pub invariant-loop-argument : goal.invariant-loop-argument
invariant-loop-argument g l =
    let look = g.L.Lookup.value_at l.lookup in
    l.gathered ≡ gathered (flat_map (values_of look) (take l.argument-index l.argument-items))
