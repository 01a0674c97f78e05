use Rattle.script_run.proofs.Ending.{comes_to_its_end_law}
use Rattle.script_run.proofs.laws.comes_to_its_end.Goals as goal

pub returns : goal.returns
returns g c = comes_to_its_end_law g.P.Play.position g.P.Play.step g.P.Play.under g.met.P.Play.follows
