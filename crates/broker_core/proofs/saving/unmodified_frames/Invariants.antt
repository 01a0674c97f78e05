use Rattle.std.proofs.Common.{◌≡◌, ◌++◌, drop}
use Rattle.document_machine.specs.Saves.{unmodified_frames}
use Rattle.broker_core.specs.Members.{views_of}
use Rattle.broker_core.proofs.saving.unmodified_frames.Given as goal

abbrev pub invariant-loop-id : goal.invariant-loop-id
invariant-loop-id l =
    l.frames ++ unmodified_frames (views_of l.members.items) l.number (drop l.id-index l.ids) ≡ unmodified_frames (views_of l.members.items) l.number l.ids
