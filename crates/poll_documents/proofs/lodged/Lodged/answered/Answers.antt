use Rattle.poll_instance.specs.Instance.{ways}
use Rattle.poll_machine.specs.House.{Answered as MailAnswered}
use Rattle.poll_machine.specs.Turn.{reads}
use Rattle.poll_documents.specs.Outside.{answer_in}
use Rattle.poll_documents.proofs.Answering.{does_lodged}
use Rattle.poll_documents.proofs.lodged.Lodged.answered.Goals as goal

pub returns-clause-answers : goal.returns-clause-answers
returns-clause-answers g c = λ served s house front back same rises.
    does_lodged (ways g.K.Kit.rules g.K.Kit.cut served) _
    (λ id. reads (ways g.K.Kit.rules g.K.Kit.cut served) id
    (MailAnswered
    (answer_in (λ d. record { ticket = d.ticket.0; scene = d.scene }) c.args.answer.now)))
    house front back _ _ _ _ _ _ _ c.self.view_is
    (c.answered.ensures.answers served s house front back same) rises
