use Rattle.std.proofs.Common.{◌≡◌, ◌++◌, map, take}
use Rattle.cool_frame.specs.declared.frame.Frame.TheVariants.{Invalidate}
use Rattle.document_machine.specs.Outputs.{named}
use Rattle.broker_core.proofs.applying.tell.Given as goal

abbrev pub invariant-loop-damage : goal.invariant-loop-damage
invariant-loop-damage l = l.frames ≡ l.initial.frames ++ map (λ d. (named l.id, Invalidate d.part d.rect)) (take l.damage-index l.damages)
