use Rattle.std.proofs.Common.{◌≡◌, ◌++◌, drop}
use Rattle.script_world.specs.Seats.{records}
use Rattle.script_world.proofs.seats.records.Given as goal

abbrev pub invariant-loop-given : goal.invariant-loop-given
invariant-loop-given l = l.bytes.items ++ records l.seats (drop l.given-index l.frames) ≡ records l.seats l.frames
