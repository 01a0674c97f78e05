use Rattle.std.proofs.Common.{◌≡◌, ◌∙◌, ◌<◌, refl, sym, ap, subst, length, Some, Ok, arith, min}
use Rattle.std.proofs.Common.{length-take}
use Rattle.std.specs.List.{slice_get}
use Rattle.hall_machine.specs.Machine.{collect_answer, place_of}
use Rattle.hall_machine.specs.States.{sights, staged}
use Rattle.hall_machine.proofs.Kept.{whole, change}
use Rattle.hall_machine.proofs.Steps.{over, collected_some, collects_nothing, takes_number}
use Rattle.hall_machine.proofs.state.HallState.collect.Goals as goal

-- what the collect did to the state is what the machine does
pub invariant_of-self : goal.invariant_of-self
invariant_of-self g c =
    let chk = c.in-Ok.ensures in
    let moved = c.take_mails-bag.ensures in
    let n = c.len-entries.ensures ∙ c.self.inside.entries.ok.0 in
    let there : slice_get c.self.inside.opens.items c.in-Ok.found.0
    ≡ Some moved.0 = ap (λ os. slice_get os c.in-Ok.found.0) (sym c.as_mut_slice.ensures.value)
    ∙ moved.1 in
    let len : length c.take_mails-bag.new.opens
    ≡ c.self.inside.opens.len = c.take_mails-bag.auto.opens ∙ c.as_mut_slice.ensures.len in
    let k = collected_some g.M.Labelled.tag
    (record { polls = c.self.inside.polls; room = c.self.inside.room }) c.self.inside.next
    c.self.inside.opens.items c.self.inside.due c.self.inside.entries.items _ c.self.invariant
    c.args.who c.args.doc.0 c.in-Ok.found.0 c.in-Ok.found.1 moved.0
    (over (λ os m. collect_answer
    (staged g.M.Labelled.tag c.self.inside.next os m) c.args.who c.args.doc.0
    ≡ Ok c.in-Ok.found.1) c.as_slice.ensures.value n chk.0) (omega arith) chk.3
    (ap (λ os. place_of c.args.doc.0 (sights g.M.Labelled.tag os)) (sym c.as_slice.ensures.value)
    ∙ chk.1) there in
    rw (
      c.from.ensures,
      whole c.self.inside.opens.len c.self.inside.opens.items
          c.take_mails-bag.new.opens len,
      moved.2,
      c.as_mut_slice.ensures.value,
      c.push_reserved.ensures.items,
      c.push_reserved.ensures.capacity,
    ) k

-- where nothing waits nothing changes
pub returns-then-n-eq0-clause-values : goal.returns-then-n-eq0-clause-values
returns-then-n-eq0-clause-values g c =
    let chk = c.in-Ok.ensures in
    let n = c.len-entries.ensures ∙ c.self.inside.entries.ok.0 in
    collects_nothing g.M.Labelled.tag
    (record { polls = c.self.inside.polls; room = c.self.inside.room }) c.self.inside.next
    c.self.inside.opens.items c.self.inside.due c.self.inside.entries.items _ c.self.invariant
    c.args.who c.args.doc.0 c.in-Ok.found.0 c.args.self.now.opens c.args.bag
    (ap (λ h. h.opens) c.self.view_is) c.requires
    (subst (λ os. c.in-Ok.found.0 < length os) c.as_slice.ensures.value chk.2)
    (subst (λ k. collect_answer
    (staged g.M.Labelled.tag c.self.inside.next c.self.inside.opens.items
    (length c.self.inside.entries.items)) c.args.who c.args.doc.0 ≡ Ok k) c.if-n-eq0.true
    (over (λ os m. collect_answer
    (staged g.M.Labelled.tag c.self.inside.next os m) c.args.who c.args.doc.0
    ≡ Ok c.in-Ok.found.1) c.as_slice.ensures.value n chk.0))
    (ap (λ os. place_of c.args.doc.0 (sights g.M.Labelled.tag os)) (sym c.as_slice.ensures.value)
    ∙ chk.1)

pub returns-clause-values : goal.returns-clause-values
returns-clause-values g c =
    let chk = c.in-Ok.ensures in
    let moved = c.take_mails-bag.ensures in
    let n = c.len-entries.ensures ∙ c.self.inside.entries.ok.0 in
    let there : slice_get c.self.inside.opens.items c.in-Ok.found.0
    ≡ Some moved.0 = ap (λ os. slice_get os c.in-Ok.found.0) (sym c.as_mut_slice.ensures.value)
    ∙ moved.1 in
    let len : length c.take_mails-bag.new.opens
    ≡ c.self.inside.opens.len = c.take_mails-bag.auto.opens ∙ c.as_mut_slice.ensures.len in
    let place : place_of c.args.doc.0 (sights g.M.Labelled.tag c.self.inside.opens.items)
    ≡ Some c.in-Ok.found.0 = ap (λ os. place_of c.args.doc.0 (sights g.M.Labelled.tag os))
    (sym c.as_slice.ensures.value) ∙ chk.1 in
    let num : c.in-Ok.found.1
    ≡ min 64 (length moved.0.mails) = takes_number g.M.Labelled.tag
    (record { polls = c.self.inside.polls; room = c.self.inside.room }) c.self.inside.next
    c.self.inside.opens.items c.self.inside.due c.self.inside.entries.items _ c.self.invariant
    c.args.who c.args.doc.0 c.in-Ok.found.0 c.in-Ok.found.1 moved.0
    (over (λ os m. collect_answer
    (staged g.M.Labelled.tag c.self.inside.next os m) c.args.who c.args.doc.0
    ≡ Ok c.in-Ok.found.1) c.as_slice.ensures.value n chk.0) place there in (
      num ∙ sym (ap length moved.3 ∙ length-take 64 moved.0.mails),
      (
        moved.0,
        change g.M.Labelled.tag c.self.inside.opens.items _ _ c.args.doc.0 c.in-Ok.found.0 moved.0 _
            (ap (λ h. h.opens) (sym c.self.view_is))
            (whole c.self.inside.opens.len c.self.inside.opens.items c.take_mails-bag.new.opens len
            ∙ rw (moved.2, c.as_mut_slice.ensures.value) refl) place there,
        moved.3,
      ),
    )
