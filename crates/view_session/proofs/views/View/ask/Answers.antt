use Rattle.view_session.specs.Slots.{due_place}
use Rattle.std.proofs.Common.{◌≡◌, List, length, nat_lt, ap, sym, ◌∙◌}
use Rattle.tile_key.specs.Places.{Place}
use Rattle.document_machine.specs.Message.{asked_with_all}
use Rattle.document_machine.specs.declared.limits.TheConstants.{MOST_ASKED}
use Rattle.view_session.specs.Slots.{seen_in}
use Rattle.view_session.proofs.AskFacts.{once_with_all}
use Rattle.view_session.proofs.CountFacts.{few_by}
use Rattle.view_session.proofs.HeldFacts.{held_asked}
use Rattle.view_session.proofs.views.View.ask.Goals as goal

pub invariant_of-self : goal.invariant_of-self
invariant_of-self c =
    let s = c.self.inside in
    record {
      held = held_asked s.zoom s.slots.items c.ask_all.new.slots.items s.asked.items c.ask_all.new.asked.items s.window s.next_wid c.self.invariant.held
          c.in_ok-ask_all.ensures.slotted
          (c.in_ok-ask_all.ensures.seen ∙ ap seen_in (c.in_ok-slots.ensures.items ∙ c.as_slice-3.ensures.value))
          (c.in_ok-ask_all.ensures.keys (rw (c.in_ok-asked.ensures.items ∙ c.as_slice-4.ensures.value) c.self.invariant.held.asked_keys))
          (rw c.in_ok-ask_all.ensures.asked (once_with_all c.args.keys.now c.in_ok-asked.asked.items (rw (c.in_ok-asked.ensures.items ∙ c.as_slice-4.ensures.value) c.self.invariant.held.asked_once)))
          (few_by MOST_ASKED _
          (let e : c.ask_all.new.asked.items ≡ asked_with_all s.asked.items c.args.keys.now =
          c.in_ok-ask_all.ensures.asked ∙ ap (λ (a : List Place). asked_with_all a c.args.keys.now) (c.in_ok-asked.ensures.items ∙ c.as_slice-4.ensures.value) in
          sym c.if-asks_too_many.false ∙ c.asks_too_many.ensures
          ∙ ap (λ (a : List Place). nat_lt MOST_ASKED (length (asked_with_all a c.args.keys.now))) c.as_slice-2.ensures.value
          ∙ ap (λ (a : List Place). nat_lt MOST_ASKED (length a)) (sym e)));
      placed = c.due_place-self-inside.ensures ∙ ap due_place c.as_slice-5.ensures.value;
    }
