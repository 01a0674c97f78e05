use Rattle.std.proofs.Common.{refl, sym}
use Rattle.view_session.proofs.DueFacts.{IsOf, at_wanted, gap_none}
use Rattle.view_session.proofs.views.View.wants.Goals as goal

pub returns-in-Ok : goal.returns-in-Ok
returns-in-Ok c =
    let slots = c.self.inside.slots.items in
    let o : IsOf c.args.self.now slots = rw (← c.self.view_is) (record { visible = refl; screen = refl; slotted = c.self.invariant.held.slotted }) in
    sym (at_wanted c.args.self.now slots c.as_slice.result.now c.args.key.now c.in-Ok.field-0 o c.as_slice.ensures.value c.in-Ok.ensures.found)

pub returns-in-Err : goal.returns-in-Err
returns-in-Err c =
    let slots = c.self.inside.slots.items in
    let o : IsOf c.args.self.now slots = rw (← c.self.view_is) (record { visible = refl; screen = refl; slotted = c.self.invariant.held.slotted }) in
    sym (gap_none c.args.self.now slots c.as_slice.result.now c.args.key.now c.in-Err.field-0 o c.as_slice.ensures.value c.in-Err.ensures.absent).wants
