-- The frames that wait for a link, as they leave.
use Rattle.std.specs.Prelude.{ℕ, ◌≡◌, ◌<◌, Bool, true, false, List, [], length, Option, Some, None}
use Rattle.tungstenite.specs.Failure.{IsIo}
use Rattle.tungstenite.specs.Socket.{Socket, Flushed}
use Rattle.tungstenite.specs.declared.error.Error.{Error}
use Rattle.net_rules.specs.Queues.{Queue, Goes}
use Rattle.web_link.specs.Endings.{EndsBy}
use Rattle.web_link.specs.Frames.{Sends}
use Rattle.web_link.specs.declared.heard.Ending.{Ending}
use Rattle.web_link.specs.declared.heard.Ending.TheVariants as End
use Rattle.web_link.specs.declared.heard.Pushed.{Pushed}
use Rattle.web_link.specs.declared.heard.Pushed.TheVariants.{Idle, More, Blocked, Ended}

-- What comes of the frames where the socket ends so.
abbrev pub PushesEnd : Ending → Pushed → Type 0
PushesEnd End.Waits pushed = pushed ≡ Blocked
PushesEnd End.NoMemory pushed = ⊥
PushesEnd End.Lost pushed = pushed ≡ Ended
PushesEnd (End.Broken code) pushed = pushed ≡ Ended

-- Whether the link is alive once no more can leave now.
abbrev pub StaysAlive : Pushed → Bool → Type 0
StaysAlive Idle alive = alive ≡ true
StaysAlive More alive = ⊥
StaysAlive Blocked alive = alive ≡ true
StaysAlive Ended alive = alive ≡ false

module _ {S : Type 0} where
  -- The first frame that waits is sent; or none waits, and nothing is sent.
  pub data PushesNext (contents : S → Option (List ℕ)) (old : Socket S) (before : Queue)
      (pushed : Pushed) (new : Socket S) (after : Queue) : Type 0 where
    Empties : pushed ≡ Idle → Goes before None after → new ≡ old
        → PushesNext contents old before pushed new after
    Leaves : (frame : List ℕ) → Goes before (Some frame) after → Sends contents old frame pushed new
        → PushesNext contents old before pushed new after

  -- None is on its way, and nothing happens. Else the one on its way goes on: it can't leave now; or
  -- it has left, and the next one goes.
  pub data PushesOne (contents : S → Option (List ℕ)) (old : Socket S) (before : Queue)
      (pushed : Pushed) (new : Socket S) (after : Queue) : Type 0 where
    Free : before.busy ≡ false → pushed ≡ Idle → new ≡ old → after ≡ before
        → PushesOne contents old before pushed new after
    Stops : (e : Error) (ending : Ending) → before.busy ≡ true → Flushed contents old new
        → IsIo e → EndsBy e ending → PushesEnd ending pushed → after ≡ before
        → PushesOne contents old before pushed new after
    Next : (mid : Socket S) → before.busy ≡ true → Flushed contents old mid → mid.output ≡ []
        → PushesNext contents mid before pushed new after
        → PushesOne contents old before pushed new after

  -- The one on its way has left, and there is no memory to send the next: it waits on.
  pub record LacksMemory (contents : S → Option (List ℕ)) (old : Socket S) (before : Queue)
      (new : Socket S) (after : Queue) : Type 0 where
    pub busy : before.busy ≡ true
    pub sent : Flushed contents old new
    pub left : new.output ≡ []
    pub waits : 0 < length before.waiting
    pub keeps : after ≡ before

  -- Frames that left whole, one after another, each in a step from where the one before it ended.
  pub data Leave (contents : S → Option (List ℕ)) (old : Socket S) (before : Queue)
      : Socket S → Queue → Type 0 where
    NoneYet : Leave contents old before old before
    OneMore : (mid new : Socket S) (between after : Queue) → Leave contents old before mid between
        → PushesOne contents mid between More new after → Leave contents old before new after

  -- Frames leave up to where no more can leave now.
  pub record Pushes (contents : S → Option (List ℕ)) (old : Socket S) (before : Queue)
      (alive : Bool) (new : Socket S) (after : Queue) : Type 0 where
    pub mid : Socket S
    pub between : Queue
    pub pushed : Pushed
    pub leave : Leave contents old before mid between
    pub last : PushesOne contents mid between pushed new after
    pub stays : StaysAlive pushed alive

  -- Frames leave up to where there is no memory for the next.
  pub record Stalls (contents : S → Option (List ℕ)) (old : Socket S) (before : Queue)
      (new : Socket S) (after : Queue) : Type 0 where
    pub mid : Socket S
    pub between : Queue
    pub leave : Leave contents old before mid between
    pub lacks : LacksMemory contents mid between new after
