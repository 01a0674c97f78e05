use Rattle.std.proofs.Common.{sym}
use Rattle.std.specs.BTreeMap.{is_at}
use Rattle.std.proofs.lemmas.List.Sorted.{list_any-IsPermutation}
use Rattle.formula_base.specs.Ranges.{position_cmp}
use Rattle.part_calc.proofs.dependants.turned.Goals as goal

pub returns : goal.returns
returns c = λ p. sym (list_any-IsPermutation (is_at (position_cmp p)) c.args.positions.items c.reverse.new.self.items c.reverse.ensures.permutation)
