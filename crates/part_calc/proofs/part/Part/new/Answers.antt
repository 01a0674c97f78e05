use Rattle.part_calc.proofs.KeptLaws.{none_kept, none_is_part}
use Rattle.part_calc.proofs.part.Part.new.Goals as goal

pub invariant_of-result : goal.invariant_of-result
invariant_of-result c = none_kept c.new.result.entries c.new-2.result.entries c.new-3.result.entries c.new.ensures.empty

pub returns-clause-kept : goal.returns-clause-kept
returns-clause-kept c = none_is_part c.new.result.entries c.new.ensures.empty
