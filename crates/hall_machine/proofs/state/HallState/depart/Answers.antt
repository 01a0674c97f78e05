use Rattle.std.proofs.Common.{◌≡◌, ◌∙◌, ◌+◌, ◌<◌, ◌≤◌, refl, sym, ap, subst, length, Some, Ok}
use Rattle.std.proofs.Common.{arith}
use Rattle.std.specs.List.{slice_get}
use Rattle.hall_machine.specs.Machine.{depart_answer, place_of}
use Rattle.hall_machine.specs.States.{sights, staged}
use Rattle.hall_machine.proofs.Kept.{whole, change}
use Rattle.hall_machine.proofs.Steps.{over, departed}
use Rattle.hall_machine.proofs.state.HallState.depart.Goals as goal

-- what the depart did to the state is what the machine does
pub invariant_of-self : goal.invariant_of-self
invariant_of-self g c =
    let chk = c.in-Ok.ensures in
    let moved = c.send_off.ensures in
    let n = c.len-entries.ensures ∙ c.self.inside.entries.ok.0 in
    let there : slice_get c.self.inside.opens.items c.in-Ok.at
    ≡ Some moved.0 = ap (λ os. slice_get os c.in-Ok.at) (sym c.as_mut_slice.ensures.value)
    ∙ moved.1 in
    let len : length c.send_off.new.opens ≡ c.self.inside.opens.len = c.send_off.auto.opens
    ∙ c.as_mut_slice.ensures.len in
    let one = subst (λ h. c.args.to < h.ground_of.polls) (sym c.self.view_is) c.requires in
    let fits : (length c.self.inside.entries.items + c.self.inside.due) + 2 ≤ c.self.inside.room =
    omega (arith, chk.3, n) in
    let k = departed g.M.Labelled.tag
    (record { polls = c.self.inside.polls; room = c.self.inside.room }) c.self.inside.next
    c.self.inside.opens.items c.self.inside.due c.self.inside.entries.items _ c.self.invariant
    c.args.who c.args.doc.0 c.in-Ok.at c.args.to c.args.parcel moved.0
    (over (λ os m. depart_answer
    (record { polls = c.self.inside.polls; room = c.self.inside.room })
    (staged g.M.Labelled.tag c.self.inside.next os m) c.args.who c.args.doc.0
    ≡ Ok tt) c.as_slice.ensures.value n chk.0) one
    (ap (λ os. place_of c.args.doc.0 (sights g.M.Labelled.tag os)) (sym c.as_slice.ensures.value)
    ∙ chk.1) there fits in
    rw (
      whole c.self.inside.opens.len c.self.inside.opens.items c.send_off.new.opens len,
      moved.2,
      c.as_mut_slice.ensures.value,
      c.push_reserved.ensures.items,
      c.push_reserved.ensures.capacity,
    ) k

pub returns-clause-values : goal.returns-clause-values
returns-clause-values g c =
    let chk = c.in-Ok.ensures in
    let moved = c.send_off.ensures in
    let n = c.len-entries.ensures ∙ c.self.inside.entries.ok.0 in
    let there : slice_get c.self.inside.opens.items c.in-Ok.at
    ≡ Some moved.0 = ap (λ os. slice_get os c.in-Ok.at) (sym c.as_mut_slice.ensures.value)
    ∙ moved.1 in
    let len : length c.send_off.new.opens ≡ c.self.inside.opens.len = c.send_off.auto.opens
    ∙ c.as_mut_slice.ensures.len in (
      moved.0,
      change g.M.Labelled.tag c.self.inside.opens.items _ _ c.args.doc.0 c.in-Ok.at moved.0 _
          (ap (λ h. h.opens) (sym c.self.view_is))
          (whole c.self.inside.opens.len c.self.inside.opens.items c.send_off.new.opens len
          ∙ rw (moved.2, c.as_mut_slice.ensures.value) refl)
          (rw (← c.as_slice.ensures.value) chk.1) there,
    )
