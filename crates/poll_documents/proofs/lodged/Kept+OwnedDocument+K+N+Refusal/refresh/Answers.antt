use Rattle.std.proofs.Common.{ap, refl}
use Rattle.poll_documents.specs.Lodging.{slot_in}
use Rattle.poll_documents.proofs.Refreshing.{refreshes_kept}
use Rattle.poll_documents.proofs.Turning.{refused_kept}
use Rattle.poll_documents.proofs.lodged.Kept+OwnedDocument+K+N+Refusal.refresh.Goals as goal

pub returns-in-Live : goal.returns-in-Live
returns-in-Live g c = record {
  refreshes = λ served s house front back same rises.
      refreshes_kept _ _ house front back c.args.at.doc.0 c.args.at.moment _ c.in-Live.owned
      c.refresh.new.self s _ c.refresh.result _ same (ap (λ (k : _). slot_in k) c.in-Live.is) rises
      c.owes_nothing.ensures c.refresh.ensures;
}

pub returns-in-Refused : goal.returns-in-Refused
returns-in-Refused g c = record {
  refreshes = λ served s house front back same rises.
      refused_kept _ _ _ house front back c.args.at.doc.0 _ _ _ _ _ _
      (ap (λ (k : _). slot_in k) c.in-Refused.is) refl rises;
}
