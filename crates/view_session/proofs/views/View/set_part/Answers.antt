use Rattle.std.proofs.Common.{length, ap, ◌∙◌}
use Rattle.tile_key.specs.Places.{IsKey}
use Rattle.tile_key.specs.Visible.{IsBefore, is_too_large}
use Rattle.view_session.specs.Slots.{due_place}
use Rattle.view_session.proofs.FreshFacts.{not_large, all_contained, held_seeing}
use Rattle.view_session.proofs.ListFacts.{pairs_by_index}
use Rattle.view_session.proofs.views.View.set_part.Goals as goal

pub seeing-requires-clause-order : goal.seeing-requires-clause-order
seeing-requires-clause-order c = rw c.as_slice.ensures.value (pairs_by_index IsBefore c.in_ok-keys.keys.items c.in_ok-keys.ensures.order)

pub seeing-requires-clause-once : goal.seeing-requires-clause-once
seeing-requires-clause-once c = rw c.as_slice-2.ensures.value c.self.invariant.held.asked_once

pub invariant_of-self : goal.invariant_of-self
invariant_of-self c =
    let s = c.self.inside in
    record {
      held = held_seeing s.zoom s.zoom s.slots.items c.in_ok-slots.slots.items c.in_ok-keys.keys.items c.as_slice.result.now s.asked.items c.as_slice-2.result.now s.window s.next_wid c.self.invariant.held
          c.as_slice.ensures.value c.as_slice-2.ensures.value c.in_ok-slots.ensures.slotted c.in_ok-slots.ensures.seen
          (ap (λ ks. is_too_large s.zoom (length ks)) c.in_ok-keys.ensures.keys ∙ not_large _ (λ h. let e = c.in_ok-keys.ensures.too_large.1 h in absurd (cc)))
          (all_contained IsKey c.in_ok-keys.keys.items (λ key has. ((c.in_ok-keys.ensures.each key).0 has).form));
      placed = c.due_place-self-inside.ensures ∙ ap due_place c.as_slice-4.ensures.value;
    }
