use Rattle.std.proofs.Common.{ap, add-zero}
use Rattle.poll_documents.specs.Lodging.{slot_in}
use Rattle.poll_documents.proofs.Answering.{answered_kept}
use Rattle.poll_documents.proofs.Turning.{refused_kept}
use Rattle.poll_documents.proofs.lodged.Kept+OwnedDocument+K+N+Refusal.answered.Goals as goal

pub returns-in-Live-clause-answers : goal.returns-in-Live-clause-answers
returns-in-Live-clause-answers g c = λ served s house front back same rises.
    answered_kept _ _ house front back c.args.at.doc.0 c.args.at.moment _ c.in-Live.owned _ _
    c.answered.result c.answered.new.self _ same (ap (λ (k : _). slot_in k) c.in-Live.is) rises
    (c.answered.ensures.befalls served c.args.at.doc.0 s)

pub returns-in-Refused-clause-answers : goal.returns-in-Refused-clause-answers
returns-in-Refused-clause-answers g c = λ served s house front back same rises.
    refused_kept _ _ _ house front back c.args.at.doc.0 _ _ _ _ _ _
    (ap (λ (k : _). slot_in k) c.in-Refused.is) (add-zero house.ended) rises
