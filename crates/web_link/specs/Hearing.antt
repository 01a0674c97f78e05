-- What comes over a link.
use Rattle.std.specs.Prelude.{ℕ, ◌≡◌, Bool, true, List, Option, Ok, Err}
use Rattle.tungstenite.specs.declared.error.Error.{Error}
use Rattle.tungstenite.specs.declared.message.Message.{Message}
use Rattle.tungstenite.specs.Socket.{Socket, Reads}
use Rattle.web_link.specs.Endings.{EndsBy}
use Rattle.web_link.specs.declared.heard.Ending.{Ending}
use Rattle.web_link.specs.declared.heard.Ending.TheVariants as End
use Rattle.web_link.specs.declared.heard.Heard.{Heard}
use Rattle.web_link.specs.declared.heard.Heard.TheVariants.{Said, Control, Blocked, Ended}

-- A message of text or bytes says these; pings, pongs and closes are for the link itself.
abbrev pub Hears : Message → Heard → Type 0
Hears (Message.Text s) heard = heard ≡ Said s
Hears (Message.Binary s) heard = heard ≡ Said s
Hears (Message.Ping s) heard = heard ≡ Control
Hears (Message.Pong s) heard = heard ≡ Control
Hears (Message.Close frame) heard = heard ≡ Control

-- What is heard where a link ends so.
abbrev pub HearsEnd : Ending → Heard → Type 0
HearsEnd End.Waits heard = heard ≡ Blocked
HearsEnd End.NoMemory heard = ⊥
HearsEnd End.Lost heard = heard ≡ Ended
HearsEnd (End.Broken code) heard = heard ≡ Ended

-- What is heard next: nothing while a frame is on its way; else the message that the socket reads; or
-- how the error ends the link that the socket meets.
pub data HearsNext {S : Type 0} (remaining : S → Option (List ℕ)) (busy : Bool) (old : Socket S)
    (heard : Heard) : Type 0 where
  Busy : busy ≡ true → heard ≡ Blocked → HearsNext remaining busy old heard
  Next : (new : Socket S) (message : Message) → Reads remaining old new (Ok message)
      → Hears message heard → HearsNext remaining busy old heard
  Stops : (new : Socket S) (e : Error) (ending : Ending) → Reads remaining old new (Err e)
      → EndsBy e ending → HearsEnd ending heard → HearsNext remaining busy old heard
