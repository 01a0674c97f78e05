-- What comes of a message of a lobby's link, and the plan that it begins.
use Rattle.std.specs.Prelude.{ℕ, List, None, Result, Ok, Err}
use Rattle.cool_frame.specs.Frames.{frame_bytes}
use Rattle.cool_frame.specs.declared.frame.Frame.TheVariants.{Server, Error}
use Rattle.cool_frame.specs.declared.kind.ErrorKind.TheVariants.{BadMessage, NotLoaded}
use Rattle.cool_message.specs.Command.{command_name}
use Rattle.cool_message.specs.declared.fault.MessageFault.{MessageFault}
use Rattle.cool_message.specs.declared.message.ClientMessage.{ClientMessage}
use Rattle.cool_message.specs.declared.message.ClientMessage.TheVariants as message
use Rattle.poll_machine.specs.Words.{Ways}
use Rattle.poll_machine.specs.House.{House, Happens}
use Rattle.poll_machine.specs.Lobby.{shows, loads}
use Rattle.poll_machine.specs.Plans.{Plan}
use Rattle.poll_lobby.specs.declared.acts.LobbyAct.{LobbyAct}
use Rattle.poll_lobby.specs.declared.acts.LobbyAct.TheVariants.{Answer, Load}

-- what comes of a text that reads as this: the greeting is answered, a load begins, and anything
-- else is refused
abbrev pub act_for : (text : List ℕ) → Result ClientMessage MessageFault → LobbyAct
act_for text (Ok message.CoolClient) = Answer (frame_bytes Server)
act_for text (Ok (message.Load url)) = Load url
act_for text (Ok _) = Answer (frame_bytes (Error (command_name text) NotLoaded None))
act_for text (Err why) = Answer (frame_bytes (Error (command_name text) BadMessage None))

-- the plan that it begins: the link is shown the frame, or the address is loaded
abbrev pub plan_of : {D J P L : Type 0} → Ways D J P → ℕ → LobbyAct
    → Plan (House D J P L) (Happens D J P L)
plan_of w link (Answer frame) = shows link frame
plan_of w link (Load url) = loads w link (w.address url)
