use Rattle.view_session.proofs.PlaceFacts.{behind_at, behind_gap}
use Rattle.view_session.proofs.slots.behind_from.Goals as goal

pub returns-in-Ok : goal.returns-in-Ok
returns-in-Ok c = rw c.in-Some.is (behind_at c.args.slots.now c.in-Some.key c.in-Ok.i c.requires c.in-Ok.ensures.found)

pub returns-in-Err : goal.returns-in-Err
returns-in-Err c = rw c.in-Some.is (behind_gap c.args.slots.now c.in-Some.key c.in-Err.i c.in-Err.ensures.absent)
