use Rattle.std.proofs.Common.{◌≡◌}
use Rattle.hall_machine.specs.Machine.{load_of, IsLeast}
use Rattle.hall_machine.specs.States.{sights}
use Rattle.hall_machine.proofs.reads.least_loaded.Given as goal

abbrev pub invariant-loop-p : goal.invariant-loop-p
invariant-loop-p g l = record {
  best : IsLeast l.p (sights g.M.Labelled.tag l.opens) l.best;
  least : l.least ≡ load_of l.best (sights g.M.Labelled.tag l.opens);
}
