use Rattle.std.proofs.Common.{◌≡◌, ◌++◌}
use Rattle.script_world.specs.House.{document_of, acknowledgements_by}
use Rattle.script_world.specs.Moved.{AreSmall}
use Rattle.script_world.proofs.acknowledging.acknowledge_all.Given as goal

-- what waits, with what the seats that are left bring, is what waited with what all bring
abbrev pub invariant-loop-link : goal.invariant-loop-link
invariant-loop-link g l = record {
  waits : l.waiting.items ++ acknowledgements_by (document_of l.broker) l.link-iterator ≡ l.initial.waiting.items ++ acknowledgements_by (document_of l.broker) l.seats.views;
  small : AreSmall (document_of l.broker) l.link-iterator → AreSmall (document_of l.broker) l.seats.views;
}
