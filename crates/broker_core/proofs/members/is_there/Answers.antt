use Rattle.std.proofs.Common.{◌∙◌}
use Rattle.broker_core.proofs.Places.{live_by}
use Rattle.broker_core.proofs.members.is_there.Goals as goal

pub returns : goal.returns
returns c = c.is_some.ensures ∙ live_by c.args.members.now.items c.args.id c.member_at.result c.member_at.ensures.place c.member_at.ensures.none
