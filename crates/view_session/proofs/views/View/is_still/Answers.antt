use Rattle.std.proofs.Common.{not, ◌&&◌, ap, ◌∙◌, arith}
use Rattle.std.specs.List.{list_any}
use Rattle.view_session.specs.Slots.{slot_due}
use Rattle.view_session.specs.declared.slots.Slot.{Slot}
use Rattle.view_session.proofs.HeldFacts.{whole_still}
use Rattle.view_session.proofs.views.View.is_still.Goals as goal

pub returns : goal.returns
returns c =
    let s = c.self.inside in
    ap not (c.sees_due.ensures ∙ ap (list_any (λ (slot : Slot). slot.visible && slot_due slot)) c.as_slice.ensures.value)
    ∙ whole_still s.rights s.part s.zoom s.area s.slots.items s.asked.items s.window s.next_wid c.args.self.now c.self.view_is c.self.invariant.held.slotted (omega arith)
