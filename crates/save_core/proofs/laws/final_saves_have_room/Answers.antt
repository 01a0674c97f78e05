use Rattle.save_core.proofs.Rooms as Law
use Rattle.save_core.proofs.laws.final_saves_have_room.Goals as goal

pub returns : goal.returns
returns c = λ events kept none. Law.has_room events kept none
