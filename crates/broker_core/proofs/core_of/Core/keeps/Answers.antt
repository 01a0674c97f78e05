use Rattle.std.proofs.Common.{◌∙◌, sym, ap, is_some}
use Rattle.document_machine.specs.Held.{Held, current_version}
use Rattle.broker_core.specs.Held.{held_of}
use Rattle.broker_core.proofs.Pairs.{some_same, some_is, none_is}
use Rattle.broker_core.proofs.core_of.Core.keeps.Goals as goal

pub returns : goal.returns
returns g c =
    let i = c.self.inside in
    let d : Held _ = held_of i.source.file i.source.base i.inputs.accepted.items i.inputs.applied i.views.members.items i.views.next i.jobs.items i.tiles i.saves in
    let same = some_same g.K.Kit.rules g.K.Kit.cut g.K.Kit.IsSound (g.K.Kit.contents i.kit) i.views.members.items i.tiles d c.self.invariant c.args.key.now in
    let told = c.is_current.ensures ∙ sym same ∙ ap (λ (o : Held _). is_some (current_version g.K.Kit.rules o c.args.key.now)) c.self.view_is in
    record {
      yes = λ e. some_is (current_version g.K.Kit.rules c.args.self.now c.args.key.now) (sym told ∙ e);
      no = λ e. none_is (current_version g.K.Kit.rules c.args.self.now c.args.key.now) (sym told ∙ e);
    }
