use Rattle.std.proofs.Common.{subst}
use Rattle.document_machine.specs.Kept.{IsHeld}
use Rattle.broker_core.proofs.core_of.Core.kept.Goals as goal

pub returns : goal.returns
returns g c = subst (IsHeld g.K.Kit.rules g.K.Kit.cut) c.self.view_is c.self.invariant.kept
