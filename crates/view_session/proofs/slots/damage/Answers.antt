use Rattle.std.proofs.Common.{set, ap, sym, ◌∙◌, arith}
use Rattle.std.proofs.lemmas.List.Edits.{map_over_more}
use Rattle.view_session.specs.Moves.{hit_slot}
use Rattle.view_session.specs.declared.slots.Slot.{Slot}
use Rattle.view_session.proofs.slots.damage.Goals as goal

pub loop-slot-preserved : goal.loop-slot-preserved
loop-slot-preserved c =
    ap (λ (slot : Slot). set c.loop-slot.slots c.loop-slot.slot-index slot) (c.hit.ensures ∙ ap (hit_slot c.args.part c.args.rect.now) (sym c.slot-item.is))
    ∙ map_over_more (hit_slot c.args.part c.args.rect.now) c.args.slots.now c.loop-slot.slots c.loop-slot.slot-index c.slot-item.result (omega arith) c.loop-slot.invariant c.slot-item.is
