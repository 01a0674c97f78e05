use Rattle.std.proofs.Common.{◌≡◌, ◌≤◌, ℕ, [], take, map, IsSome}
use Rattle.load_address.specs.declared.served.Served.{Served}
use Rattle.poll_instance.specs.Instance.{ways}
use Rattle.poll_documents.specs.Outside.{with_net}
use Rattle.poll_documents.specs.Settling.{Passes, give_of}
use Rattle.poll_documents.proofs.owned.OwnedDocument.give_all.Given as goal

abbrev pub invariant-loop-given : goal.invariant-loop-given
invariant-loop-given g l = record {
  settled : (served : Served) (id moment : ℕ) (s : _)
      → Passes (ways g.K.Kit.rules g.K.Kit.cut served) g.N.Net.carried id moment l.fn.self
      (map give_of (take l.given-index l.frames)) (with_net s (g.N.Net.told l.fn.net)) l.ended
      l.self [] (with_net s (g.N.Net.told l.net));
  few : l.ended ≤ l.given-index;
  alive : IsSome l.self.doc;
  takes : g.N.Net.take_faults l.net ≡ g.N.Net.take_faults l.fn.net;
}
