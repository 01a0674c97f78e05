use Rattle.std.proofs.Common.{◌≡◌, [], replicate}
use Rattle.sheet_calc.proofs.draft.BookDraft.new.Given as goal

abbrev pub invariant-loop-part : goal.invariant-loop-part
invariant-loop-part l = l.list.items ≡ replicate l._part []
