use Rattle.std.proofs.Common.{sym, ◌∙◌}
use Rattle.broker_core.proofs.Sendings.{idles}
use Rattle.broker_core.proofs.core_of.Core.serve_next.Goals as goal

pub returns-in_default : goal.returns-in_default
returns-in_default g c = idles g.K.Kit.rules g.K.Kit.cut c.args.self c.requires.no_save c.requires.level c.requires.within (sym c.next_pair.ensures ∙ c.in_default.is)
