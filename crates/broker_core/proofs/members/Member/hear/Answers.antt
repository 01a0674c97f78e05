use Rattle.std.proofs.Common.{◌∙◌, sym, ap, rules}
use Rattle.std.proofs.lemmas.Result.{IfOk-weaker}
use Rattle.cool_frame.specs.declared.kind.ErrorKind.TheVariants.{BadMessage}
use Rattle.document_machine.specs.Message.{reading_effect, refuses}
use Rattle.broker_core.specs.Hearing.{limits_in, sizes_in}
use Rattle.broker_core.specs.Members.{view_of}
use Rattle.broker_core.proofs.Changes.{refuses_hears}
use Rattle.broker_core.proofs.members.Member.hear.Goals as goal

pub returns-in-Err : goal.returns-in-Err
returns-in-Err g c =
    let contents = g.K.Kit.contents c.args.kit.now in
    let view = view_of c.args.self.now in
    IfOk-weaker c.refuse.result _ _
    (λ outcome is. refuses_hears (sizes_in g.K.Kit.rules contents) c.args.self.now _ _ _ outcome is
    (ap (λ command. refuses view command BadMessage) c.command_of.ensures ∙ ap (reading_effect (limits_in g.K.Kit.rules contents c.args.count c.args.saves.now.saves) view c.args.text.now) (sym (c.in-Err.ensures.refused (search rules)))) c.requires.seen)
    c.refuse.ensures
