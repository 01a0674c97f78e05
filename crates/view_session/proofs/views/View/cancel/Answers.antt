use Rattle.view_session.specs.Slots.{due_place}
use Rattle.std.proofs.Common.{◌≡◌, filter, rules, ap, ◌∙◌}
use Rattle.std.proofs.lemmas.Fn.{filter_same}
use Rattle.view_session.specs.declared.slots.Slot.{Slot}
use Rattle.view_session.proofs.CancelFacts.{cancelled_by, order_kept}
use Rattle.view_session.proofs.HeldFacts.{held_cancelled, whole_cancelled}
use Rattle.view_session.proofs.views.View.cancel.Goals as goal

pub keep_seen-requires : goal.keep_seen-requires
keep_seen-requires c =
    let s = c.self.inside in
    let is : c.retain.new.self.items ≡ filter (λ (slot : Slot). slot.visible) s.slots.items = filter_same _ (λ (slot : Slot). slot.visible) _ (λ x b f' k. search rules) _ _ c.retain.ensures.filtered in
    order_kept s.slots.items c.as_slice.result.now c.retain.new.self.items c.self.invariant.held.slotted.order is c.as_slice.ensures.value

pub invariant_of-self : goal.invariant_of-self
invariant_of-self c =
    let s = c.self.inside in
    let is : c.retain.new.self.items ≡ filter (λ (slot : Slot). slot.visible) s.slots.items = filter_same _ (λ (slot : Slot). slot.visible) _ (λ x b f' k. search rules) _ _ c.retain.ensures.filtered in
    let told = cancelled_by s.slots.items c.as_slice.result.now c.retain.new.self.items s.asked.items c.keep_seen.new.asked.items c.self.invariant.held.slotted is c.as_slice.ensures.value c.keep_seen.ensures in
    record {
      held = held_cancelled s.zoom s.slots.items c.retain.new.self.items s.asked.items c.keep_seen.new.asked.items s.window s.next_wid c.self.invariant.held told.slotted told.seen told.kept_are;
      placed = c.due_place-self-inside.ensures ∙ ap due_place c.as_slice-2.ensures.value;
    }

pub returns : goal.returns
returns c =
    let s = c.self.inside in
    let is : c.retain.new.self.items ≡ filter (λ (slot : Slot). slot.visible) s.slots.items = filter_same _ (λ (slot : Slot). slot.visible) _ (λ x b f' k. search rules) _ _ c.retain.ensures.filtered in
    let told = cancelled_by s.slots.items c.as_slice.result.now c.retain.new.self.items s.asked.items c.keep_seen.new.asked.items c.self.invariant.held.slotted is c.as_slice.ensures.value c.keep_seen.ensures in
    whole_cancelled s.rights s.part s.zoom s.area s.slots.items s.asked.items s.window s.next_wid c.args.self.now c.self.view_is c.retain.new.self.items c.keep_seen.new.asked.items told.seen told.kept_are told.screen
