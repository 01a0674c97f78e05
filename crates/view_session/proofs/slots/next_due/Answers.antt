use Rattle.std.proofs.Common.{List, find, sym, ap, ◌∙◌, arith}
use Rattle.std.specs.Prelude.{option_map}
use Rattle.view_session.specs.Slots.{slot_due}
use Rattle.view_session.specs.declared.slots.Slot.{Slot}
use Rattle.view_session.proofs.PlaceFacts.{due_low, next_from}
use Rattle.view_session.proofs.slots.next_due.Goals as goal

pub split_at-requires : goal.split_at-requires
split_at-requires c = omega (arith, due_low c.args.slots.now, c.requires.first, c.behind_from.ensures.within, c.later-start.ensures.one)

pub returns : goal.returns
returns c =
    let start = c.later-start.result in
    let found = next_from c.args.slots.now c.args.before c.args.first c.behind_from.result start c.requires.first c.behind_from.ensures c.later-start.ensures.behind.1 c.later-start.ensures.one in
    c.first_due.ensures ∙ ap (λ (x : List Slot). option_map (λ (slot : Slot). slot.key) (find slot_due x)) c.split_at.ensures.back ∙ ap (option_map (λ (slot : Slot). slot.key)) found
