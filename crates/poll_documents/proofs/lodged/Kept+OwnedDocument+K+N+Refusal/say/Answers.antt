use Rattle.std.proofs.Common.{ap, refl}
use Rattle.poll_documents.specs.Lodging.{slot_in}
use Rattle.poll_documents.proofs.Turning.{befalls_kept}
use Rattle.poll_documents.proofs.lodged.Kept+OwnedDocument+K+N+Refusal.say.Goals as goal

pub returns-in-Live-clause-says : goal.returns-in-Live-clause-says
returns-in-Live-clause-says g c = λ served clock house front back same rises.
    befalls_kept _ _ house front back c.args.at.doc.0 c.args.at.moment _ c.in-Live.owned _ _
    c.say.result c.say.new.self _ _ same (ap (λ (k : _). slot_in k) c.in-Live.is) rises
    (λ outs. refl) (c.say.ensures.befalls served clock)
