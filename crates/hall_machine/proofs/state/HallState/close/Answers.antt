use Rattle.std.proofs.Common.{◌≡◌, ◌∙◌, ◌<◌, sym, ap, subst, length, Ok}
use Rattle.hall_machine.specs.Machine.{close_answer, place_of}
use Rattle.hall_machine.specs.States.{sights, staged}
use Rattle.hall_machine.proofs.Steps.{over, closed_there, closes_there}
use Rattle.hall_machine.proofs.state.HallState.close.Goals as goal

-- what the close did to the state is what the machine does
pub invariant_of-self : goal.invariant_of-self
invariant_of-self g c =
    let chk = c.in-Ok.ensures in
    let n = c.len-entries.ensures ∙ c.self.inside.entries.ok.0 in
    let k = closed_there g.M.Labelled.tag
    (record { polls = c.self.inside.polls; room = c.self.inside.room }) c.self.inside.next
    c.self.inside.opens.items c.self.inside.due c.self.inside.entries.items _ c.self.invariant
    c.args.who c.args.doc.0 c.in-Ok.at
    (over (λ os m. close_answer
    (staged g.M.Labelled.tag c.self.inside.next os m) c.args.who c.args.doc.0
    ≡ Ok tt) c.as_slice.ensures.value n chk.0)
    (ap (λ os. place_of c.args.doc.0 (sights g.M.Labelled.tag os)) (sym c.as_slice.ensures.value)
    ∙ chk.1) (subst (λ os. c.in-Ok.at < length os) c.as_slice.ensures.value chk.2) chk.3 in
    rw (c.remove.ensures.items, c.push_reserved.ensures.items, c.push_reserved.ensures.capacity) k

pub returns-clause-values : goal.returns-clause-values
returns-clause-values g c =
    let chk = c.in-Ok.ensures in
    let n = c.len-entries.ensures ∙ c.self.inside.entries.ok.0 in
    rw c.remove.ensures.items
    (closes_there g.M.Labelled.tag
    (record { polls = c.self.inside.polls; room = c.self.inside.room }) c.self.inside.next
    c.self.inside.opens.items c.self.inside.due c.self.inside.entries.items _ c.self.invariant
    c.args.who c.args.doc.0 c.in-Ok.at c.remove.result _ (ap (λ h. h.opens) c.self.view_is)
    (over (λ os m. close_answer
    (staged g.M.Labelled.tag c.self.inside.next os m) c.args.who c.args.doc.0
    ≡ Ok tt) c.as_slice.ensures.value n chk.0)
    (ap (λ os. place_of c.args.doc.0 (sights g.M.Labelled.tag os)) (sym c.as_slice.ensures.value)
    ∙ chk.1) (subst (λ os. c.in-Ok.at < length os) c.as_slice.ensures.value chk.2)
    c.remove.ensures.value)
