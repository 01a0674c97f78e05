use Rattle.std.proofs.Common.{List, filter, ap, sym, ◌∙◌}
use Rattle.view_session.specs.Slots.{keys_in, slot_due}
use Rattle.view_session.specs.declared.slots.Slot.{Slot}
use Rattle.view_session.proofs.HeldFacts.{whole_uncurrent}
use Rattle.view_session.proofs.views.View.uncurrent.Goals as goal

pub returns : goal.returns
returns c =
    let s = c.self.inside in
    c.in_ok-keys.ensures ∙ ap (λ (x : List Slot). keys_in (filter slot_due x)) c.as_slice.ensures.value ∙ sym (whole_uncurrent s.rights s.part s.zoom s.area s.slots.items s.asked.items s.window s.next_wid c.args.self.now c.self.view_is c.self.invariant.held.slotted)
