use Rattle.script_run.proofs.OneStatus.{one_status_law}
use Rattle.script_run.proofs.laws.one_status.Goals as goal

pub returns : goal.returns
returns g c = one_status_law g.P.Play.position g.P.Play.step g.P.Play.under g.met.P.Play.follows
