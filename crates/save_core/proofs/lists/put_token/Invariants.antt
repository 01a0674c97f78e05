use Rattle.std.proofs.Common.{◌≡◌, drop, find}
use Rattle.save_core.specs.declared.values.Save.{Save}
use Rattle.save_core.proofs.lists.put_token.Given as goal

abbrev pub invariant-loop-save : goal.invariant-loop-save
invariant-loop-save l = find (λ (save : Save). save.bound) l.saves ≡ find (λ (save : Save). save.bound) (drop l.save-index l.saves)
