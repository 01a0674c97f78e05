use Rattle.std.proofs.Common.{◌≡◌, ◌++◌, drop}
use Rattle.document_machine.specs.Saves.{ending_frames}
use Rattle.broker_core.specs.Members.{views_of}
use Rattle.broker_core.proofs.saving.ending_frames.Given as goal

abbrev pub invariant-loop-save : goal.invariant-loop-save
invariant-loop-save l =
    l.frames ++ ending_frames (views_of l.members.items) l.answer (drop l.save-index l.given) ≡ ending_frames (views_of l.members.items) l.answer l.given
