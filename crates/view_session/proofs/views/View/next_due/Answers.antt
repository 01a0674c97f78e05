use Rattle.std.proofs.Common.{List, ◌&&◌, find, refl, sym, ap, ◌∙◌}
use Rattle.std.specs.Prelude.{option_map}
use Rattle.view_session.specs.Viewing.{is_behind}
use Rattle.view_session.specs.Slots.{slot_due, due_place}
use Rattle.view_session.specs.declared.slots.Slot.{Slot}
use Rattle.view_session.proofs.DueFacts.{IsOf}
use Rattle.view_session.proofs.PlaceFacts.{next_of}
use Rattle.view_session.proofs.views.View.next_due.Goals as goal

pub next_due-requires-clause-order : goal.next_due-requires-clause-order
next_due-requires-clause-order c = rw c.as_slice.ensures.value c.self.invariant.held.slotted.order

pub next_due-requires-clause-first : goal.next_due-requires-clause-first
next_due-requires-clause-first c = c.self.invariant.placed ∙ ap due_place (sym c.as_slice.ensures.value)

pub returns : goal.returns
returns c =
    let slots = c.self.inside.slots.items in
    let o : IsOf c.args.self.now slots = rw (← c.self.view_is) (record { visible = refl; screen = refl; slotted = c.self.invariant.held.slotted }) in
    c.next_due.ensures
    ∙ ap (λ (x : List Slot). option_map (λ (slot : Slot). slot.key) (find (λ slot. is_behind c.args.before slot.key && slot_due slot) x)) c.as_slice.ensures.value
    ∙ sym (next_of c.args.self.now slots c.args.before o)
