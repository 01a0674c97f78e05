use Rattle.std.proofs.Common.{◌≡◌, length, map, ap, ◌∙◌}
use Rattle.tile_key.specs.Places.{IsKey}
use Rattle.view_session.specs.Slots.{due_place}
use Rattle.tile_key.specs.Visible.{IsBefore, is_too_large}
use Rattle.document_machine.specs.State.{first_zoom}
use Rattle.view_session.specs.Moves.{seen_slot}
use Rattle.view_session.proofs.ListFacts.{pairs_by_index}
use Rattle.view_session.proofs.FreshFacts.{never_large, not_large, all_contained, held_fresh, whole_opening}
use Rattle.view_session.proofs.views.View.new.Goals as goal

pub invariant_of-result : goal.invariant_of-result
invariant_of-result c =
    record {
      held = held_fresh c.in-Some.zoom c.in_ok-slots.slots.items c.in-Ok.keys.items c.new.result.items c.new-2.result
          (c.in_ok-slots.ensures ∙ ap (map seen_slot) c.as_slice.ensures.value)
          (pairs_by_index IsBefore c.in-Ok.keys.items c.in-Ok.ensures.order)
          (ap (λ ks. is_too_large c.in-Some.zoom (length ks)) c.in-Ok.ensures.keys ∙ not_large _ (λ h. let e = c.in-Ok.ensures.too_large.1 h in absurd (cc)))
          (all_contained IsKey c.in-Ok.keys.items (λ key has. ((c.in-Ok.ensures.each key).0 has).form))
          c.new.ensures.items c.new-2.ensures;
      placed = c.due_place-first.ensures ∙ ap due_place c.as_slice-2.ensures.value;
    }

pub returns : goal.returns
returns c =
    whole_opening c.args.rights c.in-Some.zoom c.args.size.now c.in_ok-slots.slots.items c.in-Ok.keys.items c.new.result.items c.new-2.result
    (let e : c.in-Some.zoom ≡ first_zoom = cc in e)
    c.in-Ok.ensures.keys
    (c.in_ok-slots.ensures ∙ ap (map seen_slot) c.as_slice.ensures.value)
    c.new.ensures.items c.new-2.ensures

pub unreachable-requires-in-Err-TooLarge : goal.unreachable-requires-in-Err-TooLarge
unreachable-requires-in-Err-TooLarge c =
    never_large c.in-Some.zoom c.args.size.now (let e : c.in-Some.zoom ≡ first_zoom = cc in e)
    (c.in-Err-TooLarge.ensures.too_large.0 (cc))
