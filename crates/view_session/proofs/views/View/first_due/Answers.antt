use Rattle.std.proofs.Common.{List, find, ap, sym, ◌∙◌}
use Rattle.std.specs.Prelude.{option_map}
use Rattle.view_session.specs.Slots.{slot_due}
use Rattle.view_session.specs.declared.slots.Slot.{Slot}
use Rattle.view_session.proofs.HeldFacts.{whole_first}
use Rattle.view_session.proofs.views.View.first_due.Goals as goal

pub returns : goal.returns
returns c =
    let s = c.self.inside in
    c.first_due.ensures ∙ ap (λ (x : List Slot). option_map (λ (slot : Slot). slot.key) (find slot_due x)) c.as_slice.ensures.value ∙ sym (whole_first s.rights s.part s.zoom s.area s.slots.items s.asked.items s.window s.next_wid c.args.self.now c.self.view_is c.self.invariant.held.slotted)
