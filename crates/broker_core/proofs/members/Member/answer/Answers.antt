use Rattle.std.proofs.Common.{◌∙◌, sym, ap, subst}
use Rattle.std.proofs.lemmas.Result.{IfOk-weaker}
use Rattle.document_machine.specs.Message.{message_effect}
use Rattle.broker_core.specs.Hearing.{Hears, limits_in, sizes_in}
use Rattle.broker_core.specs.Members.{view_of}
use Rattle.broker_core.proofs.Changes.{refuses_hears, same_hears}
use Rattle.broker_core.proofs.members.Member.answer.Goals as goal

pub returns-in-Load : goal.returns-in-Load
returns-in-Load g c =
    let contents = g.K.Kit.contents c.args.kit.now in
    IfOk-weaker c.refuse.result _ _
    (λ outcome is. refuses_hears (sizes_in g.K.Kit.rules contents) c.args.self.now _ _ _ outcome is (ap (message_effect (limits_in g.K.Kit.rules contents c.args.count c.args.saves.now.saves) (view_of c.args.self.now)) (sym c.in-Load.is)) c.requires.seen)
    c.refuse.ensures

pub returns-in-SetPart : goal.returns-in-SetPart
returns-in-SetPart g c =
    let contents = g.K.Kit.contents c.args.kit.now in
    IfOk-weaker c.go.result _ _
    (λ outcome is. subst (λ message. Hears (sizes_in g.K.Kit.rules contents) c.args.self.now (message_effect (limits_in g.K.Kit.rules contents c.args.count c.args.saves.now.saves) (view_of c.args.self.now) message) outcome c.go.new.self) (sym c.in-SetPart.is) (is c.args.count c.args.saves.now.saves))
    c.go.ensures

pub returns-in-Save : goal.returns-in-Save
returns-in-Save g c =
    let contents = g.K.Kit.contents c.args.kit.now in
    let rules = g.K.Kit.rules in
    IfOk-weaker c.save.result _ _
    (λ outcome is. same_hears (sizes_in rules contents) c.args.self.now _ outcome (is c.args.count (rules.parts (rules.body contents)) (sizes_in rules contents) ∙ ap (message_effect (limits_in rules contents c.args.count c.args.saves.now.saves) (view_of c.args.self.now)) (sym c.in-Save.is)) c.requires.seen)
    c.save.ensures

pub returns : goal.returns
returns g c =
    let contents = g.K.Kit.contents c.args.kit.now in
    let rules = g.K.Kit.rules in
    IfOk-weaker c.save-in-UnoSave.result _ _
    (λ outcome is. same_hears (sizes_in rules contents) c.args.self.now _ outcome (is c.args.count (rules.parts (rules.body contents)) (sizes_in rules contents) ∙ ap (message_effect (limits_in rules contents c.args.count c.args.saves.now.saves) (view_of c.args.self.now)) (sym c.in-UnoSave.is)) c.requires.seen)
    c.save-in-UnoSave.ensures
