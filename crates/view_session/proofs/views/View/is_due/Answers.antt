use Rattle.std.proofs.Common.{refl, sym, ◌∙◌}
use Rattle.view_session.proofs.DueFacts.{IsOf, at_tells, gap_none, tells_due}
use Rattle.view_session.proofs.views.View.is_due.Goals as goal

pub returns-in-Ok : goal.returns-in-Ok
returns-in-Ok c =
    let slots = c.self.inside.slots.items in
    let o : IsOf c.args.self.now slots = rw (← c.self.view_is) (record { visible = refl; screen = refl; slotted = c.self.invariant.held.slotted }) in
    let t = at_tells c.args.self.now slots c.as_slice.result.now c.args.key.now c.in-Ok.i c.index.result.now o c.as_slice.ensures.value c.in-Ok.ensures.found c.index.ensures in
    c.is_due.ensures ∙ sym (tells_due c.args.self.now slots c.args.key.now c.index.result.now o t)

pub returns-in-Err : goal.returns-in-Err
returns-in-Err c =
    let slots = c.self.inside.slots.items in
    let o : IsOf c.args.self.now slots = rw (← c.self.view_is) (record { visible = refl; screen = refl; slotted = c.self.invariant.held.slotted }) in
    sym (gap_none c.args.self.now slots c.as_slice.result.now c.args.key.now c.in-Err.field-0 o c.as_slice.ensures.value c.in-Err.ensures.absent).due
