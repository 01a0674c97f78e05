use Rattle.std.proofs.Common.{◌∙◌, sym, ap}
use Rattle.std.proofs.lemmas.Result.{IfOk-weaker}
use Rattle.document_machine.specs.Message.{key_effect}
use Rattle.broker_core.specs.Members.{view_of}
use Rattle.broker_core.proofs.members.Member.key.Goals as goal

pub returns-in-Input : goal.returns-in-Input
returns-in-Input c =
    IfOk-weaker c.input.result _ _
    (λ outcome is saves parts sizes. is saves parts sizes ∙ ap (λ kind. key_effect (record { inputs = c.args.count; saves = saves; parts = parts; sizes = sizes }) (view_of c.args.self.now) kind c.args.what) (sym c.in-Input.is))
    c.input.ensures
