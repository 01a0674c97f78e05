use Rattle.std.proofs.Common.{sym, ◌∙◌, arith}
use Rattle.view_session.proofs.PlaceFacts.{due_low, due_here, due_on}
use Rattle.view_session.proofs.slots.due_place.Goals as goal

pub returns-then-is_due : goal.returns-then-is_due
returns-then-is_due c = due_here c.args.slots.now c.loop-i.i c.index-slots-i.result c.loop-i-test.true c.index-slots-i.is c.loop-i.invariant (sym c.is_due.ensures ∙ c.if-is_due.true)

pub loop-i-preserved : goal.loop-i-preserved
loop-i-preserved c = due_on c.args.slots.now c.loop-i.i c.index-slots-i.result c.loop-i-test.true c.index-slots-i.is c.loop-i.invariant (sym c.is_due.ensures ∙ c.if-is_due.false)

pub returns : goal.returns
returns c = omega (arith, due_low c.args.slots.now, c.loop-i.invariant, c.loop-i-test.false)
