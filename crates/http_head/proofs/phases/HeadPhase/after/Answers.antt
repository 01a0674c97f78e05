use Rattle.http_head.proofs.Leading.{led}
use Rattle.http_head.proofs.phases.HeadPhase.after.Goals as goal

pub returns : goal.returns
returns c = led c.args.self c.steps.result c.args.bytes.now c.steps.ensures
