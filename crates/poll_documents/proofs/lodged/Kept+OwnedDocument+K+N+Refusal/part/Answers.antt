use Rattle.std.proofs.Common.{ap}
use Rattle.poll_documents.specs.Lodging.{slot_in}
use Rattle.poll_documents.proofs.Turning.{leaves_kept}
use Rattle.poll_documents.proofs.lodged.Kept+OwnedDocument+K+N+Refusal.part.Goals as goal

pub returns-in-Live-clause-leaves : goal.returns-in-Live-clause-leaves
returns-in-Live-clause-leaves g c = λ served id s house front back rises.
    leaves_kept _ _ house front back id _ c.in-Live.owned c.args.view.0 s c.leave.result
    c.leave.new.self _ (ap (λ (k : _). slot_in k) c.in-Live.is) rises c.leave.ensures.befalls
    (λ all. all served id house.moment s)
