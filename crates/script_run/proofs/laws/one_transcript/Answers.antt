use Rattle.script_run.proofs.OneTranscript.{ends_once}
use Rattle.script_run.proofs.laws.one_transcript.Goals as goal

pub returns : goal.returns
returns g c = λ first source also sink other status good told left left_now held one two ample taken.
    ends_once g.P.Play.position g.P.Play.step g.P.Play.under g.P.Play.is_good g.met.P.Play.follows c.steps_once.ensures.once c.steps_once.ensures.stays
    first good source also sink other status told left left_now held ample taken one.ended two.ended
