use Rattle.std.proofs.Common.{◌≡◌, take}
use Rattle.std.specs.Prelude.{fold}
use Rattle.std.specs.List.{flat_map}
use Rattle.std.specs.BTreeSet.{insert_key}
use Rattle.formula_base.specs.Ranges.{position_cmp}
use Rattle.formula_base.proofs.ExprLaws.{link_names, argument_names}
use Rattle.formula_base.proofs.naming.+name.Given as goal

abbrev pub invariant-loop-link : goal.invariant-loop-link
invariant-loop-link l = l.named.keys ≡ fold (insert_key position_cmp) l.initial.named.keys (flat_map link_names (take l.link-index l.link-items))

abbrev pub invariant-loop-argument : goal.invariant-loop-argument
invariant-loop-argument l = l.named.keys ≡ fold (insert_key position_cmp) l.fn.named.keys (flat_map argument_names (take l.argument-index l.argument-items))
