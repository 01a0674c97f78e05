use Rattle.std.proofs.Common.{◌≡◌}
use Rattle.crossbeam_channel.specs.Claims.{IsSeatAt, view as seen}
use Rattle.crossbeam_channel.specs.Ends.{sends_on, receives_on}
use Rattle.paint_yard.proofs.ends.WorkEnd.take.Given as goal

-- this end has taken nothing yet
abbrev pub invariant-loop : goal.invariant-loop
invariant-loop g l = record {
  seat : IsSeatAt (sends_on l.self-inside.sender) l.self-inside.pass;
  same : receives_on l.self-inside.receiver ≡ sends_on l.self-inside.sender;
  seen_is : seen l.self-inside.pass ≡ seen l.initial.self-inside.pass;
}
