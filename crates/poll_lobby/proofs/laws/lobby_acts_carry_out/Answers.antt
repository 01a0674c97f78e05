use Rattle.cool_message.specs.Reading.{reading}
use Rattle.poll_lobby.proofs.Heard.{hears_so}
use Rattle.poll_lobby.proofs.laws.lobby_acts_carry_out.Goals as goal

pub returns : goal.returns
returns g c link text old new events h =
    hears_so g.M.Polled.ways link text (reading text) old events new h
