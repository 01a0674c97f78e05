use Rattle.std.proofs.Common.{◌≡◌, ◌∙◌, refl, sym, ap, length, Some}
use Rattle.std.specs.List.{slice_get}
use Rattle.hall_machine.proofs.Kept.{whole, posted_at, change}
use Rattle.hall_machine.proofs.Lacks.{post_lacks}
use Rattle.hall_machine.proofs.state.HallState.post.Goals as goal

-- what the post did to the state is what the machine does
pub invariant_of-self-2 : goal.invariant_of-self-2
invariant_of-self-2 g c =
    let chk = c.in-Ok.ensures.answer in
    let put = c.in_default.ensures in
    let there : slice_get c.self.inside.opens.items c.in-Ok.at
    ≡ Some put.0 = ap (λ os. slice_get os c.in-Ok.at) (sym c.as_mut_slice.ensures.value)
    ∙ put.1 in
    let len : length c.put_mail.new.opens ≡ c.self.inside.opens.len = c.put_mail.auto.opens
    ∙ c.as_mut_slice.ensures.len in
    let k = posted_at g.M.Labelled.tag
    (record { polls = c.self.inside.polls; room = c.self.inside.room }) c.self.inside.next
    c.self.inside.opens.items c.as_slice.result.now c.self.inside.due
    c.self.inside.entries.items c.len-entries.result _ c.args.who c.args.doc.0 c.in-Ok.at
    c.args.mail c.args.urgent put.0
    c.self.invariant c.as_slice.ensures.value
    (c.len-entries.ensures ∙ c.self.inside.entries.ok.0) chk.0 chk.1 there chk.3 in
    rw (
      whole c.self.inside.opens.len c.self.inside.opens.items c.put_mail.new.opens len,
      put.2,
      c.as_mut_slice.ensures.value,
      c.push_reserved.ensures.items,
      c.push_reserved.ensures.capacity,
      c.label-label.ensures,
    ) k

pub returns-clause-values : goal.returns-clause-values
returns-clause-values g c =
    let chk = c.in-Ok.ensures.answer in
    let put = c.in_default.ensures in
    let there : slice_get c.self.inside.opens.items c.in-Ok.at
    ≡ Some put.0 = ap (λ os. slice_get os c.in-Ok.at) (sym c.as_mut_slice.ensures.value)
    ∙ put.1 in
    let len : length c.put_mail.new.opens ≡ c.self.inside.opens.len = c.put_mail.auto.opens
    ∙ c.as_mut_slice.ensures.len in (
      put.0,
      change g.M.Labelled.tag c.self.inside.opens.items _ _ c.args.doc.0 c.in-Ok.at put.0 _
          (ap (λ h. h.opens) (sym c.self.view_is))
          (whole c.self.inside.opens.len c.self.inside.opens.items c.put_mail.new.opens len
          ∙ rw (put.2, c.as_mut_slice.ensures.value) refl)
          (rw (← c.as_slice.ensures.value) chk.1) there,
    )

-- the machine takes the mail for which there was no memory
pub returns-in-Err-put_mail-clause-answers : goal.returns-in-Err-put_mail-clause-answers
returns-in-Err-put_mail-clause-answers g c =
    let takes = rw (
      c.as_slice.ensures.value,
      c.len-entries.ensures,
      c.self.inside.entries.ok.0,
    ) at c.in-Ok.ensures.answer.0 in
    rw (c.in-Err-put_mail.ensures.0, ← c.self.view_is) (post_lacks g.M.Labelled.tag
    (record { polls = c.self.inside.polls; room = c.self.inside.room }) c.self.inside.next
    c.self.inside.opens.items c.self.inside.due c.self.inside.entries.items _ c.self.invariant
    c.args.who c.args.doc.0 c.args.mail c.args.urgent takes)
