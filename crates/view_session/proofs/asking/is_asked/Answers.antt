use Rattle.std.proofs.Common.{ap, sym, ◌∙◌}
use Rattle.view_session.specs.declared.slots.Slot.{Slot}
use Rattle.view_session.proofs.AskFacts.{asked_at, asked_gap}
use Rattle.view_session.proofs.asking.is_asked.Goals as goal

pub returns-in-Ok : goal.returns-in-Ok
returns-in-Ok c = λ asked k.
    ap (λ (slot : Slot). slot.asked) (sym c.index-slots-i.is)
    ∙ asked_at c.args.slots.now asked c.args.key.now c.in-Ok.i c.index-slots-i.result k c.in-Ok.ensures.found c.index-slots-i.is

pub returns-in-Err : goal.returns-in-Err
returns-in-Err c = λ asked k. asked_gap c.args.slots.now asked c.args.key.now c.in-Err.field-0 k c.in-Err.ensures.absent
