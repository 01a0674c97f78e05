-- What one turn of a poll does, in order, what it answers, and a run of turns.
use Rattle.std.specs.Prelude.{◌≡◌, ℕ, ◌+◌, ◌≤◌, ◌<◌, Bool, true, false, ◌==◌, nat_lt, nat_le, List}
use Rattle.std.specs.Prelude.{[], ◌∷◌, ◌++◌, length, map, Option, None, Some, Result, Ok, Err}
use Rattle.std.specs.Prelude.{if◌then◌else◌, ⊤}
use Rattle.std.specs.List.{list_any, AllByRecursion}
use Rattle.cool_base.specs.declared.ids.DocId.{DocId}
use Rattle.cool_frame.specs.declared.kind.ErrorKind.TheVariants.{ViewsFull}
use Rattle.cool_message.specs.Reading.{reading}
use Rattle.document_machine.specs.declared.rights.Rights.{Rights}
use Rattle.hall_machine.specs.declared.words.CloseFault.{CloseFault}
use Rattle.hall_machine.specs.declared.words.Owner.{Owner}
use Rattle.net_traits.specs.declared.nets.Taken.{Taken}
use Rattle.net_traits.specs.declared.nets.Taken.TheVariants as taken
use Rattle.outside.specs.declared.faults.StoreFault.{StoreFault}
use Rattle.poll_machine.specs.Words.{Event, Left, Said, Turned, Outs, Answer, event_of, Ways}
use Rattle.poll_machine.specs.Agenda.{ViewLink, Lock, HeldDocument, Here, Did, Refreshes, Unlocks}
use Rattle.poll_machine.specs.House.{Slot, Live, Refused, Parcel, Mail, Join, Answered, Move}
use Rattle.poll_machine.specs.House.{PortCall, Arrives, Counts, SlotAct, At, Gets, ComesIn, Ends}
use Rattle.poll_machine.specs.House.{Happens, Ticks, Takes, Calls, OfDoc, Adopted, House, HouseStep}
use Rattle.poll_machine.specs.House.{slot_of, view_in, is_among}
use Rattle.poll_machine.specs.Lobby.{refuses, here_now, settles, happens_to, joins, adopts}
use Rattle.poll_machine.specs.Lobby.{for_live, departs, hears}
use Rattle.poll_machine.specs.Runs.{Run}
use Rattle.poll_machine.specs.Plans.{Plan, Rests, Never, Makes, Then, Learns, Looks, Follows, each}
use Rattle.poll_machine.specs.Plans.{choose}

-- the ids of what is held, in order
abbrev pub ids : {D J P L : Type 0} → House D J P L → List ℕ
ids h = map (λ p. p.0) h.docs

-- for each id that is held when this begins, in order
abbrev pub for_each : {D J P L : Type 0} → (ℕ → Plan (House D J P L) (Happens D J P L))
    → Plan (House D J P L) (Happens D J P L)
for_each plan = Looks (λ h. each plan (ids h))

-- a parcel that the hall gives comes in, and its links are adopted
abbrev pub arrives : {D J P L : Type 0} → Option (DocId × Parcel D L)
    → Plan (House D J P L) (Happens D J P L)
arrives None = Makes (Calls (Arrives None))
arrives (Some p) =
    Then (Looks (λ h. Makes (OfDoc p.0.0 h.moment (ComesIn p.1)))) (for_live p.0.0 (adopts p.0.0))

-- an event happens to a held document, and all that is owed for it is done
abbrev pub did : {D J P L : Type 0} → ℕ → Event P → Plan (House D J P L) (Happens D J P L)
did id event = happens_to id (λ outs. Did event outs)

-- a mail that joins: its link is adopted into the lobby, and joins the document; where the document
-- is refused, it gets the answer that is kept
abbrev pub welcomes : {D J P L : Type 0} → Ways D J P → ℕ → ℕ → Rights → Option (Slot D J P L)
    → Plan (House D J P L) (Happens D J P L)
welcomes w id link rights (Some (Live h)) = joins w id link rights h
welcomes w id link rights (Some (Refused file refusal)) = refuses link refusal
welcomes w id link rights None = Never

-- one mail of a document; a move is only noted, and a document that is held as refused drops all
-- but joins
abbrev pub reads : {D J P L : Type 0} → Ways D J P → ℕ → Mail P L
    → Plan (House D J P L) (Happens D J P L)
reads w id (Join old carried rights) =
    Learns (λ (link : ℕ). Then (Makes (Adopted carried link))
    (Looks (λ h. welcomes w id link rights (slot_of id h.docs))))
reads w id (Answered answer) = for_live id (λ h. did id (event_of answer))
reads w id (Move to) = Rests

-- the poll that the last move among these mails names
abbrev pub later_move : {P L : Type 0} → Mail P L → Option ℕ → Option ℕ
later_move (Move to) None = Some to
later_move _ last = last

abbrev pub last_move : {P L : Type 0} → List (Mail P L) → Option ℕ
last_move [] = None
last_move (mail ∷ mails) = later_move mail (last_move mails)

-- a document that is to move departs, where the poll is another one and there
abbrev pub moves : {D J P L : Type 0} → ℕ → Option ℕ → Plan (House D J P L) (Happens D J P L)
moves id None = Rests
moves id (Some to) =
    for_live id (λ held. Looks (λ h. choose (to == h.me) Rests
    (Learns (λ (polls : ℕ). Then (Makes (Calls (Counts polls)))
    (choose (nat_lt to polls) (departs id to held) Rests)))))

-- the mails of a document are collected, taken in order, and then the last move is made
abbrev pub collects : {D J P L : Type 0} → Ways D J P → ℕ → Plan (House D J P L) (Happens D J P L)
collects {D} {J} {P} {L} w id =
    Learns (λ (answer : Result ℕ Owner). Learns (λ (bag : List (Mail P L)).
    Then (Looks (λ h. Makes (OfDoc id h.moment (Gets answer bag))))
    (Then (each (reads w id) bag) (moves id (last_move bag)))))

-- what the net gave: a link that says something is a view, or in the lobby; a link that leaves
-- makes its view leave; a link that isn't held changes nothing
abbrev pub says : {D J P L : Type 0} → Ways D J P → ℕ → List ℕ → Option (ℕ × ℕ)
    → Plan (House D J P L) (Happens D J P L)
says w link text (Some found) = did found.0 (Said found.1 text)
says w link text None = Looks
    (λ h. choose (is_among link h.lobby) (hears w link text (reading text)) Rests)

abbrev pub leaves : {D J P L : Type 0} → Option (ℕ × ℕ) → Plan (House D J P L) (Happens D J P L)
leaves (Some found) = did found.0 (Left found.1)
leaves None = Rests

abbrev pub handles : {D J P L : Type 0} → Ways D J P → Taken
    → Plan (House D J P L) (Happens D J P L)
handles w (taken.Opened link) = Rests
handles w (taken.Said link bytes) = Looks (λ h. says w link.0 bytes (view_in h.docs link.0))
handles w (taken.Left link) = Looks (λ h. leaves (view_in h.docs link.0))
handles w taken.Nothing = Rests
handles w taken.Failed = Rests

-- a lock that was taken or refreshed 600 seconds ago or earlier is refreshed once, whatever the
-- answer
abbrev pub refreshes_lock : {D J P L : Type 0} → ℕ → ℕ → List ℕ → Option Lock
    → Plan (House D J P L) (Happens D J P L)
refreshes_lock moment id file None = Rests
refreshes_lock moment id file (Some lock) =
    choose (nat_le (lock.moment + 600) moment)
    (Learns (λ (answer : Result (Unit {0}) StoreFault). here_now id
    (Refreshes file lock.token answer))) Rests

abbrev pub refreshes : {D J P L : Type 0} → ℕ → Plan (House D J P L) (Happens D J P L)
refreshes id = for_live id (λ held. Looks (λ h. refreshes_lock h.moment id held.file held.lock))

-- one turn of a document; one that is held as refused makes none
abbrev pub turns : {D J P L : Type 0} → ℕ → Plan (House D J P L) (Happens D J P L)
turns id = for_live id (λ held. Learns (λ (worked : Bool). did id (Turned worked)))

-- a document that is done is closed: first its lock is released, where it has one, whatever the
-- answer; what is held as refused is closed too
abbrev pub unlocks : {D J P L : Type 0} → ℕ → List ℕ → Option Lock
    → Plan (House D J P L) (Happens D J P L)
unlocks id file None = Rests
unlocks id file (Some lock) = Learns
    (λ (answer : Result (Unit {0}) StoreFault). here_now id (Unlocks file lock.token answer))

abbrev pub ends : {D J P L : Type 0} → ℕ → Plan (House D J P L) (Happens D J P L)
ends id = Learns (λ (answer : Result (Unit {0}) CloseFault). Looks
    (λ h. Makes (OfDoc id h.moment (Ends answer))))

abbrev pub ends_where : {D J P L : Type 0} → Ways D J P → ℕ → Option (Slot D J P L)
    → Plan (House D J P L) (Happens D J P L)
ends_where w id None = Rests
ends_where w id (Some (Refused file refusal)) = ends id
ends_where w id (Some (Live h)) = choose (w.is_done h.doc)
    (Then (unlocks id h.file h.lock) (ends id)) Rests

abbrev pub closes : {D J P L : Type 0} → Ways D J P → ℕ → Plan (House D J P L) (Happens D J P L)
closes w id = Looks (λ h. ends_where w id (slot_of id h.docs))

-- the rest of a turn after what the net answered; after a failure there is none
abbrev pub goes_on : {D J P L : Type 0} → Ways D J P → Taken
    → Plan (House D J P L) (Happens D J P L)
goes_on w taken.Failed = Rests
goes_on w answer = Then (handles w answer)
    (Then (for_each refreshes) (Then (for_each turns) (for_each (closes w))))

-- one turn: the clock is read; a parcel comes in; the mails of each document are taken; the net is
-- asked for an event, which is handled; locks are refreshed; each document makes a turn; what is
-- done is closed
abbrev pub a_turn : {D J P L : Type 0} → Ways D J P → Plan (House D J P L) (Happens D J P L)
a_turn {D} {J} {P} {L} w =
    Learns (λ (moment : ℕ). Then (Makes (Ticks moment))
    (Then (Learns (λ (parcel : Option (DocId × Parcel D L)). arrives parcel))
    (Then (for_each (collects w))
    (Learns (λ (answer : Taken). Then (Makes (Takes answer)) (goes_on w answer))))))

-- these events are a turn of a poll
abbrev pub IsTurn : {D J P L : Type 0} → Ways D J P → House D J P L → List (Happens D J P L)
    → House D J P L → Type 0
IsTurn w old events new = Follows (HouseStep w) (a_turn w) old events new

-- an event by which a turn did something: a parcel came in, mails were collected, the net gave an
-- event, a lock was refreshed or released, a document's turn did a work, a document was closed
abbrev pub is_event : Taken → Bool
is_event (taken.Opened link) = true
is_event (taken.Said link bytes) = true
is_event (taken.Left link) = true
is_event taken.Nothing = false
is_event taken.Failed = false

abbrev pub is_some_mail : {P L : Type 0} → List (Mail P L) → Bool
is_some_mail [] = false
is_some_mail (mail ∷ mails) = true

abbrev pub is_done_here : {J P L : Type 0} → Here J P L → Bool
is_done_here (Did (Turned worked) outs) = worked
is_done_here (Refreshes file token answer) = true
is_done_here (Unlocks file token answer) = true
is_done_here _ = false

abbrev pub is_done_to : {D J P L : Type 0} → SlotAct D J P L → Bool
is_done_to (At here) = is_done_here here
is_done_to (ComesIn parcel) = true
is_done_to (Gets answer bag) = is_some_mail bag
is_done_to (Ends (Ok u)) = true
is_done_to _ = false

abbrev pub is_work : {D J P L : Type 0} → Happens D J P L → Bool
is_work (Takes answer) = is_event answer
is_work (OfDoc id moment act) = is_done_to act
is_work _ = false

-- the event by which a turn failed
abbrev pub is_fault : {D J P L : Type 0} → Happens D J P L → Bool
is_fault (Takes taken.Failed) = true
is_fault _ = false

-- what a turn answers
pub data Outcome : Type 0 where
  Worked : Outcome
  Idle : Outcome
  NetFault : Outcome

-- NetFault exactly where the net failed to give an event; else Worked exactly where it did
-- something
abbrev pub outcome : {D J P L : Type 0} → List (Happens D J P L) → Outcome
outcome events = if list_any is_fault events then NetFault else if list_any is_work events then
    Worked else Idle

-- how a run of turns ends: all turns that were given were made; a turn was idle; the net failed; or
-- it was out of memory
pub data End : Type 0 where
  Budget : End
  Rested : End
  Fault : End
  OutOfMemory : End

-- all of these turns worked
abbrev pub AllWorked : {D J P L : Type 0} → List (List (Happens D J P L)) → Type 0
AllWorked turns = AllByRecursion (λ events. outcome events ≡ Worked) turns

-- turns one after the other, all worked
pub record Rounds {D J P L : Type 0} (w : Ways D J P) (old : House D J P L)
    (turns : List (List (Happens D J P L))) (new : House D J P L) : Type 0 where
  pub run : Run (IsTurn w) old turns new
  pub worked : AllWorked turns

-- turns that worked, and a last one that ended so, within the number that was given
pub record EndsWith {D J P L : Type 0} (w : Ways D J P) (given : ℕ) (how : Outcome)
    (old : House D J P L) (turns : List (List (Happens D J P L))) (rest : List (Happens D J P L))
    (new : House D J P L) : Type 0 where
  pub mid : House D J P L
  pub rounds : Rounds w old turns mid
  pub few : length turns < given
  pub last : IsTurn w mid rest new
  pub how_is : outcome rest ≡ how

-- turns that worked, and then events of one more that memory cut off
pub record CutsOff {D J P L : Type 0} (w : Ways D J P) (given : ℕ) (old : House D J P L)
    (turns : List (List (Happens D J P L))) (rest : List (Happens D J P L))
    (new : House D J P L) : Type 0 where
  pub mid : House D J P L
  pub rounds : Rounds w old turns mid
  pub few : length turns < given
  pub cut : Run (HouseStep w) mid rest new

-- a run of at most so many turns: Budget exactly where so many were made and all worked; it ends at
-- the first that was idle, or at which the net failed; out of memory, what was done so far is a run
abbrev pub Polls : {D J P L : Type 0} → Ways D J P → (given : ℕ) → End → House D J P L
    → List (List (Happens D J P L)) → List (Happens D J P L) → House D J P L → Type 0
Polls w given Budget old turns rest new = Rounds w old turns new × (length turns ≡ given)
    × (rest ≡ [])
Polls w given Rested old turns rest new = EndsWith w given Idle old turns rest new
Polls w given Fault old turns rest new = EndsWith w given NetFault old turns rest new
Polls w given OutOfMemory old turns rest new = CutsOff w given old turns rest new

-- the house after a call: spent once it was out of memory
abbrev pub left_by : {X : Type 0} → End → X → Option X
left_by OutOfMemory house = None
left_by Budget house = Some house
left_by Rested house = Some house
left_by Fault house = Some house

-- a call on a house that may be spent: a spent one is out of memory, does nothing and stays spent
abbrev pub PollsOn : {D J P L : Type 0} → Ways D J P → (given : ℕ) → End → Option (House D J P L)
    → List (List (Happens D J P L)) → List (Happens D J P L) → (last : House D J P L)
    → Option (House D J P L) → Type 0
PollsOn w given end None turns rest last new = (end ≡ OutOfMemory) × (turns ≡ []) × (rest ≡ [])
    × (new ≡ None)
PollsOn w given end (Some old) turns rest last new = Polls w given end old turns rest last
    × (new ≡ left_by end last)
