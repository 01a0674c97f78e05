use Rattle.std.proofs.Common.{◌≡◌}
use Rattle.crossbeam_channel.specs.Claims.{IsSeatAt, view as seen}
use Rattle.crossbeam_channel.specs.Ends.{sends_on, receives_on, ruled_capacity}
use Rattle.paint_yard.specs.declared.passes.TheConstants.{MOST_WORKS}
use Rattle.paint_yard.proofs.shared.SharedYard.close.Given as goal

-- this end has done nothing yet
abbrev pub invariant-loop : goal.invariant-loop
invariant-loop g l = record {
  seat : IsSeatAt (sends_on l.self-inside.sender) l.self-inside.pass;
  room : ruled_capacity (sends_on l.self-inside.sender) ≡ MOST_WORKS;
  same : receives_on l.self-inside.receiver ≡ sends_on l.self-inside.sender;
  seen_is : seen l.self-inside.pass ≡ seen l.initial.self-inside.pass;
  full : l.self-inside.full ≡ l.initial.self-inside.full;
}
