use Rattle.std.proofs.Common.{◌≡◌}
use Rattle.cool_server.specs.Hosting.{hosting}
use Rattle.cool_server.proofs.Runs.{SoFar}
use Rattle.cool_server.proofs.hosting.serve_wires.Given as goal

-- so many wires were served, and the edge had no fault
abbrev pub invariant-loop : goal.invariant-loop
invariant-loop g l = record {
  so_far : SoFar l.requests l.left (g.E.Edge.told l.initial.edge) (hosting g.E.Keeper.Keeper.holds g.E.Keeper.Keeper.faults g.E.Clock.Clock.moments l.initial.host l.initial.clock)
      (g.E.Edge.told l.edge) (hosting g.E.Keeper.Keeper.holds g.E.Keeper.Keeper.faults g.E.Clock.Clock.moments l.host l.clock);
  faults : g.E.Edge.faults l.edge ≡ g.E.Edge.faults l.initial.edge;
  can_next : (goal.iterator-loop g).can_next l.iterator';
  is_finite : (goal.iterator-loop g).is_finite l.iterator';
}
