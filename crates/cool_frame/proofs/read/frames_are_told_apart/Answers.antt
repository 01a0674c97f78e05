use Rattle.cool_frame.proofs.ReadLaws.{one_frame, whole_tile}
use Rattle.cool_frame.proofs.read.frames_are_told_apart.Goals as goal

pub returns : goal.returns
returns c = record { one = one_frame; whole = whole_tile }
