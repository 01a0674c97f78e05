use Rattle.std.proofs.Common.{◌≡◌, drop, find}
use Rattle.save_core.specs.Saving.{needs_put}
use Rattle.save_core.proofs.lists.token_for.Given as goal

abbrev pub invariant-loop-save : goal.invariant-loop-save
invariant-loop-save l = find (needs_put l.applied l.last) l.saves ≡ find (needs_put l.applied l.last) (drop l.save-index l.saves)
