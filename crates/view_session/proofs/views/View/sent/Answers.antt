use Rattle.view_session.specs.Slots.{due_place}
use Rattle.std.proofs.Common.{◌≤◌, List, not, sym, subst, ap, ◌∙◌, arith}
use Rattle.view_session.specs.declared.slots.Slot.{Slot}
use Rattle.view_session.proofs.PlaceFacts.{front_low}
use Rattle.view_session.proofs.ShowFacts.{IsShown, shown_by}
use Rattle.view_session.proofs.HeldFacts.{held_sent, whole_wants, whole_sent}
use Rattle.view_session.proofs.views.View.sent.Goals as goal

pub due_place-self-inside-requires : goal.due_place-self-inside-requires
due_place-self-inside-requires c =
    let s = c.self.inside in
    let low : c.earlier-from.result ≤ due_place s.slots.items = omega (arith, c.earlier-from.ensures.0, c.self.invariant.placed) in
    subst (λ (x : List Slot). c.earlier-from.result ≤ due_place x) (sym c.as_slice.ensures.value)
    (front_low c.show-place.result c.earlier-from.result s.slots.items c.show-place.new.slots.items c.show-place.ensures.front c.earlier-from.ensures.1 low)

pub invariant_of-self : goal.invariant_of-self
invariant_of-self c =
    let s = c.self.inside in
    let told : IsShown s.slots.items c.show-place.new.slots.items s.asked.items c.end_asking.new.asked.items c.args.key.now (record { version = c.args.ver; stale = not c.args.current }) =
    shown_by s.slots.items c.show-place.new.slots.items s.asked.items c.end_asking.new.asked.items c.args.key.now (record { version = c.args.ver; stale = not c.args.current }) c.args.current c.self.invariant.held.slotted
    (whole_wants s.rights s.part s.zoom s.area s.slots.items s.asked.items s.window s.next_wid c.args.self.now c.self.view_is c.args.key.now c.requires.wanted) c.show-place.ensures.shown c.end_asking.ensures in
    record {
      held = held_sent s.zoom s.slots.items c.show-place.new.slots.items s.asked.items c.end_asking.new.asked.items s.window c.put.new.self s.next_wid c.args.key.now c.args.current c.self.invariant.held told.slotted told.seen c.end_asking.ensures c.put.ensures;
      placed = c.due_place-self-inside.ensures ∙ ap due_place c.as_slice.ensures.value;
    }

pub returns-clause-sent : goal.returns-clause-sent
returns-clause-sent c =
    let s = c.self.inside in
    let told : IsShown s.slots.items c.show-place.new.slots.items s.asked.items c.end_asking.new.asked.items c.args.key.now (record { version = c.args.ver; stale = not c.args.current }) =
    shown_by s.slots.items c.show-place.new.slots.items s.asked.items c.end_asking.new.asked.items c.args.key.now (record { version = c.args.ver; stale = not c.args.current }) c.args.current c.self.invariant.held.slotted
    (whole_wants s.rights s.part s.zoom s.area s.slots.items s.asked.items s.window s.next_wid c.args.self.now c.self.view_is c.args.key.now c.requires.wanted) c.show-place.ensures.shown c.end_asking.ensures in
    whole_sent s.rights s.part s.zoom s.area s.slots.items s.asked.items s.window s.next_wid c.args.self.now c.self.view_is c.args.key.now c.args.ver c.args.current c.show-place.new.slots.items c.end_asking.new.asked.items c.put.new.self told.seen c.end_asking.ensures told.screen c.put.ensures
