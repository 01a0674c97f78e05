use Rattle.std.proofs.Common.{refl}
use Rattle.document_machine.specs.Outputs.{nothing}
use Rattle.poll_documents.proofs.Befell.{left_befell}
use Rattle.poll_documents.proofs.owned.OwnedDocument.part.Goals as goal

pub returns-clause-befalls : goal.returns-clause-befalls
returns-clause-befalls g c = λ served id moment s.
    left_befell _ _ id moment c.args.self.now c.args.view.0 c.drop_view.new.self s
    c.owes_nothing.ensures (nothing, c.drop_view.ensures.step, refl) c.drop_view.ensures.rest
    c.owes_nothing-2.ensures
