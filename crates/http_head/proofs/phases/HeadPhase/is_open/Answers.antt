use Rattle.http_head.proofs.Leading.{open_phase}
use Rattle.http_head.proofs.phases.HeadPhase.is_open.Goals as goal

pub returns : goal.returns
returns c = open_phase c.args.self c.is_followed.result c.is_followed.ensures
