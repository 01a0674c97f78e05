use Rattle.std.proofs.Common.{◌≡◌, take}
use Rattle.std.specs.Prelude.{fold}
use Rattle.std.specs.BTreeSet.{insert_key}
use Rattle.formula_base.specs.Ranges.{position_cmp}
use Rattle.formula_base.proofs.naming.name_range.Given as goal

abbrev pub invariant-loop-position : goal.invariant-loop-position
invariant-loop-position l = l.named.keys ≡ fold (insert_key position_cmp) l.fn.named.keys (take l.position-index l.position-items)
