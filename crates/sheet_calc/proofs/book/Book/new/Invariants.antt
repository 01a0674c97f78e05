use Rattle.std.proofs.Common.{◌≡◌, [], replicate}
use Rattle.std.specs.List.{AllByRecursion}
use Rattle.part_calc.specs.Kept.{IsPart}
use Rattle.sheet_calc.proofs.book.Book.new.Given as goal

abbrev pub invariant-loop-part : goal.invariant-loop-part
invariant-loop-part l = record {
  empty : l.list.items ≡ replicate l._part [];
  kept : AllByRecursion IsPart l.list.items;
}
