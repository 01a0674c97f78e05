use Rattle.std.proofs.Common.{ap, add-zero}
use Rattle.poll_documents.specs.Lodging.{slot_in}
use Rattle.poll_documents.proofs.Turning.{turns_kept, refused_kept}
use Rattle.poll_documents.proofs.lodged.Kept+OwnedDocument+K+N+Refusal.turn.Goals as goal

pub returns-in-Live-clause-turns : goal.returns-in-Live-clause-turns
returns-in-Live-clause-turns g c = λ served clock house front back same rises.
    turns_kept _ _ house front back c.args.at.doc.0 c.args.at.moment _ c.in-Live.owned _
    c.make_turn.result c.make_turn.new.self _ same (ap (λ (k : _). slot_in k) c.in-Live.is) rises
    (c.make_turn.ensures.turns served clock)

pub returns-in-Refused-clause-turns : goal.returns-in-Refused-clause-turns
returns-in-Refused-clause-turns g c = λ served clock house front back same rises.
    refused_kept _ _ _ house front back c.args.at.doc.0 _ _ _ _ _ _
    (ap (λ (k : _). slot_in k) c.in-Refused.is) (add-zero house.ended) rises
