use Rattle.http_write.proofs.SentParts.{some_of_first, some_of_second}
use Rattle.http_write.proofs.writes.send_both.Goals as goal

pub returns-in-Err-clause-sends : goal.returns-in-Err-clause-sends
returns-in-Err-clause-sends g c = (c.in-Err.ensures.sends.0, some_of_first _ _ _ _ c.in-Err.ensures.sends.1)

pub returns-in-Err-send_all-clause-sends : goal.returns-in-Err-send_all-clause-sends
returns-in-Err-send_all-clause-sends g c = (c.in-Err-send_all.ensures.sends.0, some_of_second _ _ _ _ _ c.in-Ok.ensures.sends c.in-Err-send_all.ensures.sends.1)
