-- The events of a document.
use Rattle.std.specs.Prelude.{ℕ, List, Result}
use Rattle.document_machine.specs.declared.rights.Rights.{Rights}
use Rattle.outside.specs.declared.errands.Receipt.{Receipt}
use Rattle.outside.specs.declared.faults.StoreFault.{StoreFault}

-- what can happen to a document: a view joins, a view leaves, a view says a text, the document makes a
-- turn, a painted job comes back with the scene that was painted, a store answers an errand by a receipt
-- or a fault
pub data Event (S : Type 0) : Type 0 where
  Joined : (rights : Rights) → Event S
  Left : (view : ℕ) → Event S
  Said : (view : ℕ) (text : List ℕ) → Event S
  Turned : Event S
  Painted : (ticket : ℕ) (scene : S) → Event S
  PutAnswered : (ticket : ℕ) (result : Result Receipt StoreFault) → Event S
