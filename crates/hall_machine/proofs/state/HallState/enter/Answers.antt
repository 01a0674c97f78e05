use Rattle.std.proofs.Common.{◌∙◌, refl}
use Rattle.hall_machine.proofs.Kept.{fresh}
use Rattle.hall_machine.proofs.Lacks.{enter_lacks}
use Rattle.hall_machine.proofs.state.HallState.enter.Goals as goal

-- a new document is what the machine opens
pub invariant_of-self-2 : goal.invariant_of-self-2
invariant_of-self-2 g c =
    let h = rw c.in_default.is at c.in-Ok.ensures.answer in
    let k = fresh g.M.Labelled.tag
    (record { polls = c.self.inside.polls; room = c.self.inside.room }) c.self.inside.next
    c.self.inside.opens.items c.as_slice.result.now c.self.inside.due
    c.self.inside.entries.items c.len-entries.result _ c.args.who c.self.inside.next
    c.args.file.now
    c.self.invariant c.as_slice.ensures.value
    (c.len-entries.ensures ∙ c.self.inside.entries.ok.0) h.0 refl h.1 h.2 in
    rw (
      c.in-Ok-open_one.ensures.1,
      c.push_reserved.ensures.items,
      c.push_reserved.ensures.capacity,
      c.in-Ok-open_one.ensures.0,
    ) k

-- the machine opens a new document where there was no memory for it
pub returns-in-Err-open_one-clause-answers : goal.returns-in-Err-open_one-clause-answers
returns-in-Err-open_one-clause-answers g c =
    let h = rw c.in_default.is at c.in-Ok.ensures.answer in
    let new = rw (c.as_slice.ensures.value, c.len-entries.ensures, c.self.inside.entries.ok.0) at h.0 in
    rw (← c.self.view_is) (enter_lacks g.M.Labelled.tag
    (record { polls = c.self.inside.polls; room = c.self.inside.room }) c.self.inside.next
    c.self.inside.opens.items c.self.inside.due c.self.inside.entries.items _ c.self.invariant
    c.args.who c.args.file.now new)
