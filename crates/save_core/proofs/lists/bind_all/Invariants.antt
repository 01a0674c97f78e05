use Rattle.std.proofs.Common.{◌≡◌, ◌++◌, map, take, drop}
use Rattle.save_core.specs.Saving.{bound_to}
use Rattle.save_core.proofs.lists.bind_all.Given as goal

abbrev pub invariant-loop-save : goal.invariant-loop-save
invariant-loop-save l = l.saves ≡ map (bound_to l.applied) (take l.save-index l.fn.saves) ++ drop l.save-index l.fn.saves
