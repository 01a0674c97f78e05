use Rattle.std.proofs.Common.{◌≡◌, take}
use Rattle.sheet_kit.proofs.scene.copy_texts.Given as goal

abbrev pub invariant-loop-shown : goal.invariant-loop-shown
invariant-loop-shown l = l.copies.items ≡ take l.shown-index l.texts
