use Rattle.std.proofs.Common.{[], take}
use Rattle.part_calc.specs.Finding.{is_listed}
use Rattle.part_calc.specs.Walking.{IsPushed}
use Rattle.part_calc.proofs.dependants.entered.Given as goal

abbrev pub invariant-loop-position : goal.invariant-loop-position
invariant-loop-position l = IsPushed [] l.visits.items (is_listed (take l.position-index l.starts))
