use Rattle.std.proofs.Common.{◌∙◌}
use Rattle.broker_core.proofs.Places.{live_by}
use Rattle.broker_core.proofs.core_of.Core.is_live.Goals as goal

pub returns : goal.returns
returns g c =
    rw (← c.self.view_is) (c.is_some.ensures ∙ live_by c.self.inside.views.members.items c.args.id c.member_at.result c.member_at.ensures.place c.member_at.ensures.none)
