use Rattle.std.proofs.Common.{◌∙◌, sym, ap}
use Rattle.std.proofs.lemmas.Result.{IfOk-weaker}
use Rattle.document_machine.specs.Message.{mouse_effect}
use Rattle.broker_core.specs.Members.{view_of}
use Rattle.broker_core.proofs.members.Member.mouse.Goals as goal

pub returns-in-ButtonDown : goal.returns-in-ButtonDown
returns-in-ButtonDown c =
    IfOk-weaker c.input.result _ _
    (λ outcome is saves parts sizes. is saves parts sizes ∙ ap (λ kind. mouse_effect (record { inputs = c.args.count; saves = saves; parts = parts; sizes = sizes }) (view_of c.args.self.now) kind c.args.what) (sym c.in-ButtonDown.is))
    c.input.ensures
