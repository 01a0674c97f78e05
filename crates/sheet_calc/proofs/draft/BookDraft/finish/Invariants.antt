use Rattle.std.proofs.Common.{◌≡◌}
use Rattle.std.specs.List.{AllByRecursion}
use Rattle.part_calc.specs.Kept.{IsPart}
use Rattle.sheet_calc.proofs.draft.BookDraft.finish.Given as goal

abbrev pub invariant-loop-part : goal.invariant-loop-part
invariant-loop-part l = record {
  same : l.list.items ≡ l.yielded;
  kept : AllByRecursion IsPart l.list.items;
}
