use Rattle.std.proofs.Common.{◌≡◌, take, filter, map}
use Rattle.save_core.specs.Saving.{answer_of}
use Rattle.save_core.proofs.lists.endings.Given as goal

abbrev pub invariant-loop-save : goal.invariant-loop-save
invariant-loop-save l = l.answers.items ≡ map (answer_of l.number l.stored) (filter (λ save. save.bound) (take l.save-index l.saves))
