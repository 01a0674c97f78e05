use Rattle.std.proofs.Common.{◌≡◌, ℕ, List, map, Option, IsSome, vec_len}
use Rattle.load_address.specs.declared.served.Served.{Served}
use Rattle.poll_instance.specs.Instance.{ways}
use Rattle.poll_machine.specs.Agenda.{Offer}
use Rattle.poll_machine.specs.Words.{Paint}
use Rattle.poll_documents.specs.Outside.{outside}
use Rattle.poll_documents.specs.Settling.{Passes}
use Rattle.poll_documents.proofs.owned.OwnedDocument.do_jobs.Given as goal

abbrev pub invariant-works : goal.invariant-works
invariant-works g l = record {
  settled : (served : Served) (clock : Option (List ℕ))
      → Passes (ways g.K.Kit.rules g.K.Kit.cut served) g.N.Net.carried l.at.doc.0 l.at.moment
      l.fn.self (map (λ job. Offer (Paint job)) l.fn.jobs.items)
      (outside (g.N.Net.told l.fn.net) (g.P.Port.view l.fn.port) (g.H.Store.calls l.fn.store) clock
      (g.Y.Yard.took l.fn.yard)) l.ended l.self (map (λ job. Offer (Paint job)) l.left.items)
      (outside (g.N.Net.told l.net) (g.P.Port.view l.port) (g.H.Store.calls l.store) clock
      (g.Y.Yard.took l.yard));
  alive : IsSome l.fn.self.doc → IsSome l.self.doc;
  takes : g.N.Net.take_faults l.net ≡ g.N.Net.take_faults l.fn.net;
}

abbrev pub decreases-works : goal.decreases-works
decreases-works g l = vec_len l.left
