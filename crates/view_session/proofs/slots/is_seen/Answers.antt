use Rattle.std.proofs.Common.{ap, sym, ◌∙◌}
use Rattle.view_session.specs.declared.slots.Slot.{Slot}
use Rattle.view_session.proofs.CancelFacts.{seen_at, seen_gap}
use Rattle.view_session.proofs.slots.is_seen.Goals as goal

pub returns-in-Ok : goal.returns-in-Ok
returns-in-Ok c =
    ap (λ (slot : Slot). slot.visible) (sym c.index-slots-i.is)
    ∙ seen_at c.args.slots.now c.args.key.now c.in-Ok.i c.index-slots-i.result c.requires c.in-Ok.ensures.found c.index-slots-i.is

pub returns-in-Err : goal.returns-in-Err
returns-in-Err c = seen_gap c.args.slots.now c.args.key.now c.in-Err.field-0 c.in-Err.ensures.absent
