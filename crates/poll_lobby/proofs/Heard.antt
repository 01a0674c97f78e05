-- What comes of each message is what the poll does when it hears it.
use Rattle.std.proofs.Common.{ℕ, List, Result, Ok, Err}
use Rattle.cool_message.specs.declared.fault.MessageFault.{MessageFault}
use Rattle.cool_message.specs.declared.message.ClientMessage.{ClientMessage}
use Rattle.cool_message.specs.declared.message.ClientMessage.TheVariants as message
use Rattle.poll_machine.specs.Words.{Ways}
use Rattle.poll_machine.specs.House.{House, Happens, HouseStep}
use Rattle.poll_machine.specs.Lobby.{hears}
use Rattle.poll_machine.specs.Plans.{Follows}
use Rattle.poll_lobby.specs.Acts.{act_for, plan_of}

-- whatever the text reads as
pub hears_so : {D J P L : Type 0} (w : Ways D J P) (link : ℕ) (text : List ℕ)
    (heard : Result ClientMessage MessageFault) (old : House D J P L)
    (events : List (Happens D J P L)) (new : House D J P L)
    → Follows (HouseStep w) (plan_of w link (act_for text heard)) old events new
    → Follows (HouseStep w) (hears w link text heard) old events new
hears_so w link text (Err why) old events new h = h
hears_so w link text (Ok message.CoolClient) old events new h = h
hears_so w link text (Ok (message.Load url)) old events new h = h
hears_so w link text (Ok (message.Key kind chr code)) old events new h = h
hears_so w link text (Ok (message.Mouse kind x y count buttons modifier)) old events new h = h
hears_so w link text (Ok (message.Tile words)) old events new h = h
hears_so w link text (Ok (message.TileCombine words)) old events new h = h
hears_so w link text (Ok message.CancelTiles) old events new h = h
hears_so w link text (Ok (message.VisibleArea area)) old events new h = h
hears_so w link text (Ok (message.Zoom a b c d e)) old events new h = h
hears_so w link text (Ok (message.SetPart part)) old events new h = h
hears_so w link text (Ok (message.TileProcessed wids)) old events new h = h
hears_so w link text (Ok (message.Save keep skip)) old events new h = h
hears_so w link text (Ok message.UnoSave) old events new h = h
