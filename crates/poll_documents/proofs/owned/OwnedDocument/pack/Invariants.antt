use Rattle.std.proofs.Common.{◌≡◌, ◌+◌, ◌∷◌, ◌++◌, ℕ, Result, IsOk, false, length}
use Rattle.load_address.specs.declared.served.Served.{Served}
use Rattle.poll_instance.specs.Instance.{ways}
use Rattle.cool_base.specs.declared.want.Memory.{Memory}
use Rattle.poll_machine.specs.House.{Live as LiveSlot, Rises}
use Rattle.poll_documents.specs.Doing.{Does, in_house}
use Rattle.poll_documents.specs.Links.{packs}
use Rattle.poll_documents.specs.Lodging.{BrokersDocs, BrokersHouse}
use Rattle.poll_documents.specs.Outside.{BrokersHeard, with_net}
use Rattle.poll_documents.proofs.owned.OwnedDocument.pack.Given as goal

-- what carries out the plan of what is left, behind what was done, carries out all of it
abbrev pub invariant-loop : goal.invariant-loop
invariant-loop g l = record {
  packs : (served : Served) (id : ℕ) (s : BrokersHeard g.row.K-Scene.Denot g.row.N-Link.Denot)
      (house end : BrokersHouse g.row.K-Scene.Denot g.row.N-Link.Denot)
      (front back : BrokersDocs g.row.K-Scene.Denot g.row.N-Link.Denot) (result : Result ℕ Memory)
      (after : BrokersHeard g.row.K-Scene.Denot g.row.N-Link.Denot)
      → Rises (front ++ (id, LiveSlot l.fn.self) ∷ back)
      → Does (ways g.K.Kit.rules g.K.Kit.cut served) g.N.Net.carried (packs id l.self)
      (in_house house front (id, LiveSlot l.self) back (house.ended + l.ended))
      (with_net s (g.N.Net.told l.net)) (IsOk result) false end after
      → Does (ways g.K.Kit.rules g.K.Kit.cut served) g.N.Net.carried (packs id l.fn.self)
      (in_house house front (id, LiveSlot l.fn.self) back house.ended)
      (with_net s (g.N.Net.told l.fn.net)) (IsOk result) false end after;
  left : length l.self.views + l.counter ≡ l.end;
  takes : g.N.Net.take_faults l.net ≡ g.N.Net.take_faults l.fn.net;
}
