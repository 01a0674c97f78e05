use Rattle.view_session.specs.Slots.{due_place}
use Rattle.std.proofs.Common.{◌≡◌, map, ap, sym, ◌∙◌}
use Rattle.std.specs.Vec.{with_items}
use Rattle.std.proofs.lemmas.List.{with_items_is}
use Rattle.view_session.specs.Moves.{hit_slot}
use Rattle.view_session.proofs.HeldFacts.{hit_length, held_hit, whole_damaged}
use Rattle.view_session.proofs.views.View.damage.Goals as goal

pub invariant_of-self : goal.invariant_of-self
invariant_of-self c =
    let s = c.self.inside in
    let is = c.damage.ensures ∙ ap (map (hit_slot c.args.part c.args.rect.now)) c.as_mut_slice.ensures.value in
    let e : (with_items s.slots c.damage.new.slots).items ≡ map (hit_slot c.args.part c.args.rect.now) s.slots.items =
    with_items_is s.slots c.damage.new.slots (hit_length c.args.part c.args.rect.now s.slots.items c.damage.new.slots is ∙ sym s.slots.ok.0) ∙ is in
    record {
      held = held_hit c.args.part c.args.rect.now s.zoom s.slots.items (with_items s.slots c.damage.new.slots).items s.asked.items s.window s.next_wid c.self.invariant.held e;
      placed = c.due_place-self-inside.ensures ∙ ap due_place c.as_slice.ensures.value;
    }

pub returns : goal.returns
returns c =
    let s = c.self.inside in
    let is = c.damage.ensures ∙ ap (map (hit_slot c.args.part c.args.rect.now)) c.as_mut_slice.ensures.value in
    let e : (with_items s.slots c.damage.new.slots).items ≡ map (hit_slot c.args.part c.args.rect.now) s.slots.items =
    with_items_is s.slots c.damage.new.slots (hit_length c.args.part c.args.rect.now s.slots.items c.damage.new.slots is ∙ sym s.slots.ok.0) ∙ is in
    whole_damaged s.rights s.part s.zoom s.area s.slots.items s.asked.items s.window s.next_wid c.args.self.now c.self.view_is c.args.part c.args.rect.now (with_items s.slots c.damage.new.slots).items e
