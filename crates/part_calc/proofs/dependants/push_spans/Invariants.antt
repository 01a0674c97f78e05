use Rattle.std.proofs.Common.{take}
use Rattle.part_calc.specs.Lanes.{is_read}
use Rattle.part_calc.specs.Walking.{IsPushed}
use Rattle.part_calc.proofs.dependants.push_spans.Given as goal

abbrev pub invariant-loop-span : goal.invariant-loop-span
invariant-loop-span l = IsPushed l.fn.visits.items l.visits.items (is_read (take l.span-index l.spans) l.position)
