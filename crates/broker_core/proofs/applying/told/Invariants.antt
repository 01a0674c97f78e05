use Rattle.std.proofs.Common.{◌≡◌, ◌++◌, drop}
use Rattle.document_machine.specs.Step.{told}
use Rattle.broker_core.specs.Members.{views_of}
use Rattle.broker_core.proofs.applying.told.Given as goal

abbrev pub invariant-loop-member : goal.invariant-loop-member
invariant-loop-member l = l.frames ++ told (views_of (drop l.member-index l.members)) l.damages ≡ told (views_of l.members) l.damages
