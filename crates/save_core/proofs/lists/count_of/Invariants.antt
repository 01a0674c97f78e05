use Rattle.std.proofs.Common.{◌≡◌, ◌≤◌, take, filter, length}
use Rattle.save_core.specs.Saving.{is_of}
use Rattle.save_core.proofs.lists.count_of.Given as goal

abbrev pub invariant-loop-save : goal.invariant-loop-save
invariant-loop-save l = record {
  counted : l.count ≡ length (filter (is_of l.view) (take l.save-index l.saves));
  few : l.count ≤ l.save-index;
}
