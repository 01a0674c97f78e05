use Rattle.std.proofs.Common.{◌≡◌, ◌∙◌, refl, sym, ap, length, Some}
use Rattle.std.specs.List.{slice_get}
use Rattle.hall_machine.specs.Machine.{arrive_answer, place_of, place_bound_to}
use Rattle.hall_machine.specs.States.{sights, staged}
use Rattle.hall_machine.proofs.Kept.{whole, change}
use Rattle.hall_machine.proofs.Steps.{over, arrived_there, arrives_place}
use Rattle.hall_machine.proofs.state.HallState.arrive.Goals as goal

-- what the arrive did to the state is what the machine does
pub invariant_of-self : goal.invariant_of-self
invariant_of-self g c =
    let chk = c.in-Some.ensures in
    let moved = c.land-parcel.ensures in
    let n = c.len-entries.ensures ∙ c.self.inside.entries.ok.0 in
    let there : slice_get c.self.inside.opens.items c.in-Some.found.0
    ≡ Some moved.0 = ap (λ os. slice_get os c.in-Some.found.0)
    (sym c.as_mut_slice.ensures.value) ∙ moved.1 in
    let len : length c.land-parcel.new.opens ≡ c.self.inside.opens.len = c.land-parcel.auto.opens
    ∙ c.as_mut_slice.ensures.len in
    let k = arrived_there g.M.Labelled.tag
    (record { polls = c.self.inside.polls; room = c.self.inside.room }) c.self.inside.next
    c.self.inside.opens.items c.self.inside.due c.self.inside.entries.items _ c.self.invariant
    c.args.who c.in-Some.found.1 c.in-Some.found.0 moved.0
    (over (λ os m. arrive_answer (staged g.M.Labelled.tag c.self.inside.next os m) c.args.who
    ≡ Some c.in-Some.found.1) c.as_slice.ensures.value n chk.0)
    (ap (λ os. place_bound_to c.args.who (sights g.M.Labelled.tag os))
    (sym c.as_slice.ensures.value) ∙ chk.1) there chk.4 in
    rw (
      whole c.self.inside.opens.len c.self.inside.opens.items c.land-parcel.new.opens len,
      moved.2,
      c.as_mut_slice.ensures.value,
      c.push_reserved.ensures.items,
      c.push_reserved.ensures.capacity,
    ) k

pub returns-clause-values : goal.returns-clause-values
returns-clause-values g c =
    let chk = c.in-Some.ensures in
    let moved = c.land-parcel.ensures in
    let n = c.len-entries.ensures ∙ c.self.inside.entries.ok.0 in
    let there : slice_get c.self.inside.opens.items c.in-Some.found.0
    ≡ Some moved.0 = ap (λ os. slice_get os c.in-Some.found.0)
    (sym c.as_mut_slice.ensures.value) ∙ moved.1 in
    let len : length c.land-parcel.new.opens ≡ c.self.inside.opens.len = c.land-parcel.auto.opens
    ∙ c.as_mut_slice.ensures.len in
    let place : place_of c.in-Some.found.1 (sights g.M.Labelled.tag c.self.inside.opens.items)
    ≡ Some c.in-Some.found.0 = arrives_place g.M.Labelled.tag _ c.self.inside.next
    c.self.inside.opens.items c.self.inside.due c.self.inside.entries.items _ c.self.invariant
    c.args.who c.in-Some.found.1 c.in-Some.found.0
    (over (λ os m. arrive_answer (staged g.M.Labelled.tag c.self.inside.next os m) c.args.who
    ≡ Some c.in-Some.found.1) c.as_slice.ensures.value n chk.0)
    (ap (λ os. place_bound_to c.args.who (sights g.M.Labelled.tag os))
    (sym c.as_slice.ensures.value) ∙ chk.1) in (
      moved.0,
      change g.M.Labelled.tag c.self.inside.opens.items _ _ c.in-Some.found.1 c.in-Some.found.0
          moved.0 _ (ap (λ h. h.opens) (sym c.self.view_is))
          (whole c.self.inside.opens.len c.self.inside.opens.items c.land-parcel.new.opens len
          ∙ rw (moved.2, c.as_mut_slice.ensures.value) refl) place there,
      moved.3,
    )
