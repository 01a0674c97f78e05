-- Frames that are given to a link.
use Rattle.std.specs.Prelude.{ℕ, ◌≡◌, Bool, true, false, List, [], Option}
use Rattle.tungstenite.specs.Connection.{write_step}
use Rattle.tungstenite.specs.Content.{Content, text, binary}
use Rattle.tungstenite.specs.Failure.{WriteFails}
use Rattle.tungstenite.specs.Socket.{Socket, Writes, content_of}
use Rattle.tungstenite.specs.declared.error.Error.{Error}
use Rattle.tungstenite.specs.declared.message.Message.{Message}
use Rattle.net_rules.specs.Kinds.{GoesAsText}
use Rattle.net_rules.specs.Queues.{Queue, Offers}
use Rattle.net_rules.specs.declared.out_queue.Offered.TheVariants as Offer
use Rattle.web_link.specs.declared.heard.Pushed.{Pushed}
use Rattle.web_link.specs.declared.heard.Pushed.TheVariants.{Idle, More, Blocked, Ended}

-- The message that a frame is sent as.
pub record IsSentAs (frame : List ℕ) (content : Content) : Type 0 where
  pub as_text : GoesAsText frame → content ≡ text frame
  pub as_bytes : (GoesAsText frame → ⊥) → content ≡ binary frame

-- The same of a message of the crate.
abbrev pub MessageOf : List ℕ → Message → Type 0
MessageOf frame message = IsSentAs frame (content_of message)

module _ {S : Type 0} where
  -- A frame is sent: all of it left, or it is on its way, as one message; or the socket failed.
  abbrev pub Sends : (S → Option (List ℕ)) → Socket S → List ℕ → Pushed → Socket S → Type 0
  Sends contents old frame Idle new = ⊥
  Sends contents old frame More new =
      (content : Content) × IsSentAs frame content
      × Writes contents old new (write_step old.conn content) × (new.output ≡ [])
  Sends contents old frame Blocked new =
      (content : Content) × IsSentAs frame content
      × Writes contents old new (write_step old.conn content)
  Sends contents old frame Ended new =
      (content : Content) × IsSentAs frame content
      × ((e : Error) × WriteFails (write_step old.conn content) e)

  -- A frame goes at once: all of it left and none is on its way, or it is; or the link has ended.
  pub data GivesNow (contents : S → Option (List ℕ)) (old : Socket S) (frame : List ℕ) (alive : Bool)
      (new : Socket S) (queue : Queue) : Type 0 where
    Left : alive ≡ true → Sends contents old frame More new
        → queue ≡ record { busy = false; waiting = [] } → GivesNow contents old frame alive new queue
    OnItsWay : alive ≡ true → Sends contents old frame Blocked new
        → queue ≡ record { busy = true; waiting = [] } → GivesNow contents old frame alive new queue
    Fails : alive ≡ false → Sends contents old frame Ended new
        → GivesNow contents old frame alive new queue

  -- A frame is given: it waits behind the one that is on its way, there is no room for it and the link
  -- has ended, or it goes at once, exactly where none is on its way.
  pub data GivesFrame (contents : S → Option (List ℕ)) (old : Socket S) (before : Queue)
      (frame : List ℕ) (alive : Bool) (new : Socket S) (after : Queue) : Type 0 where
    Waits : alive ≡ true → Offers before frame Offer.Waits after → new ≡ old
        → GivesFrame contents old before frame alive new after
    Full : alive ≡ false → Offers before frame Offer.Full after → new ≡ old
        → GivesFrame contents old before frame alive new after
    Goes : before.busy ≡ false → GivesNow contents old frame alive new after
        → GivesFrame contents old before frame alive new after
