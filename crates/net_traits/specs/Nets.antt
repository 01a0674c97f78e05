-- What a net tells: its links, the events that wait, and what was taken and given.
use Rattle.std.specs.Prelude.{ℕ, ◌≡◌, ◌-◌, ◌<◌, Bool, true, false, not, ◌==◌, List, [], ◌∷◌, ◌++◌, map, filter, Option, Some, None, Result, Ok, Err, if◌then◌else◌, ⊤}
use Rattle.std.specs.Option.{IfSome}
use Rattle.cool_base.specs.declared.ids.LinkId.{LinkId}
use Rattle.cool_base.specs.declared.want.Memory.{Memory}
use Rattle.net_traits.specs.declared.nets.Taken.{Taken}
use Rattle.net_traits.specs.declared.nets.Taken.TheVariants.{Opened, Said, Left, Nothing, Failed}
use Rattle.net_traits.specs.declared.nets.Given.{Given}

-- An event of a link, which waits until it is taken.
pub data LinkEvent : Type 0 where
  Opens : (link : LinkId) → LinkEvent
  Says : (link : LinkId) (bytes : List ℕ) → LinkEvent
  Leaves : (link : LinkId) → LinkEvent

-- The link of an event.
abbrev pub link_of : LinkEvent → LinkId
link_of (Opens link) = link
link_of (Says link bytes) = link
link_of (Leaves link) = link

-- The answer of a take that gives the event.
abbrev pub taken_of : LinkEvent → Taken
taken_of (Opens link) = Opened link
taken_of (Says link bytes) = Said link bytes
taken_of (Leaves link) = Left link

-- The same event at a link of another name.
abbrev pub renamed : LinkId → LinkEvent → LinkEvent
renamed new (Opens link) = Opens new
renamed new (Says link bytes) = Says new bytes
renamed new (Leaves link) = Leaves new

-- The events of this link, and those of all others, in order.
abbrev pub events_at : LinkId → List LinkEvent → List LinkEvent
events_at link events = filter (λ (e : LinkEvent). (link_of e).0 == link.0) events

abbrev pub events_beside : LinkId → List LinkEvent → List LinkEvent
events_beside link events = filter (λ (e : LinkEvent). not ((link_of e).0 == link.0)) events

-- A call that was answered.
pub data NetCall : Type 0 where
  Took : (taken : Taken) → NetCall
  Gave : (link : LinkId) (frame : List ℕ) (given : Given) → NetCall

-- What a net tells: which links it holds and which are open, the events that wait (which it may leave
-- untold), its takes and gives with their answers in one order, which links a release didn't give,
-- and how many links may still open; None for any number.
pub record NetTold : Type 0 where
  pub held : ℕ → Bool
  pub opened : ℕ → Bool
  pub waiting : Option (List LinkEvent)
  pub calls : List NetCall
  pub missed : ℕ → Bool
  pub room : Option ℕ

-- The flags with this one set, and with this one cleared.
abbrev pub with_link : LinkId → (ℕ → Bool) → ℕ → Bool
with_link link flags id = if id == link.0 then true else flags id

abbrev pub without_link : LinkId → (ℕ → Bool) → ℕ → Bool
without_link link flags id = if id == link.0 then false else flags id

-- The flags are these.
abbrev pub IsFlags : (ℕ → Bool) → (ℕ → Bool) → Type 0
IsFlags flags wanted = (id : ℕ) → flags id ≡ wanted id

-- The links that are held and open, how many may still open, and what may be taken.
abbrev pub opened_after : Taken → (ℕ → Bool) → ℕ → Bool
opened_after (Opened link) flags = with_link link flags
opened_after (Said link bytes) flags = flags
opened_after (Left link) flags = without_link link flags
opened_after Nothing flags = flags
opened_after Failed flags = flags

-- An opened link is held. Else no link comes to be held, and the net may lose one.
abbrev pub HeldAfter : Taken → (ℕ → Bool) → (ℕ → Bool) → Type 0
HeldAfter (Opened link) old new = (new link.0 ≡ true) × ((id : ℕ) → new id ≡ true → with_link link old id ≡ true)
HeldAfter (Said link bytes) old new = (id : ℕ) → new id ≡ true → old id ≡ true
HeldAfter (Left link) old new = (id : ℕ) → new id ≡ true → old id ≡ true
HeldAfter Nothing old new = (id : ℕ) → new id ≡ true → old id ≡ true
HeldAfter Failed old new = (id : ℕ) → new id ≡ true → old id ≡ true

-- A link that opens was neither open nor held, and there was room for it. One that says something or
-- leaves was open.
abbrev pub MayTake : Taken → NetTold → Type 0
MayTake (Opened link) net = (net.opened link.0 ≡ false) × (net.held link.0 ≡ false) × IfSome net.room (λ (n : ℕ). 0 < n)
MayTake (Said link bytes) net = net.opened link.0 ≡ true
MayTake (Left link) net = net.opened link.0 ≡ true
MayTake Nothing net = ⊤
MayTake Failed net = ⊤

abbrev pub room_after : Taken → Option ℕ → Option ℕ
room_after (Opened link) None = None
room_after (Opened link) (Some n) = Some (n - 1)
room_after (Said link bytes) room = room
room_after (Left link) room = room
room_after Nothing room = room
room_after Failed room = room

-- A take gives the first of the events that wait, where there is one, or fails and leaves them.
abbrev pub TakesFirst : List LinkEvent → Taken → List LinkEvent → Type 0
TakesFirst events Failed new = new ≡ events
TakesFirst [] Nothing new = new ≡ []
TakesFirst (e ∷ events) Nothing new = ⊥
TakesFirst [] (Opened link) new = ⊥
TakesFirst [] (Said link bytes) new = ⊥
TakesFirst [] (Left link) new = ⊥
TakesFirst (e ∷ events) (Opened link) new = (taken_of e ≡ Opened link) × (new ≡ events)
TakesFirst (e ∷ events) (Said link bytes) new = (taken_of e ≡ Said link bytes) × (new ≡ events)
TakesFirst (e ∷ events) (Left link) new = (taken_of e ≡ Left link) × (new ≡ events)

-- The events that wait change so, where they are told. They are told before and after, or neither time.
abbrev pub Waits : (List LinkEvent → List LinkEvent → Type 0) → Option (List LinkEvent) → Option (List LinkEvent) → Type 0
Waits Change None None = ⊤
Waits Change None (Some new) = ⊥
Waits Change (Some old) None = ⊥
Waits Change (Some old) (Some new) = Change old new

-- What a take does.
pub record Takes (old : NetTold) (taken : Taken) (new : NetTold) : Type 0 where
  pub calls : new.calls ≡ old.calls ++ Took taken ∷ []
  pub may : MayTake taken old
  pub opened : IsFlags new.opened (opened_after taken old.opened)
  pub held : HeldAfter taken old.held new.held
  pub missed : IsFlags new.missed old.missed
  pub room : new.room ≡ room_after taken old.room
  pub waiting : Waits (λ (before after : List LinkEvent). TakesFirst before taken after) old.waiting new.waiting

-- What a give does: nothing to events, and no link comes to be held.
pub record Gives (old : NetTold) (link : LinkId) (frame : List ℕ) (given : Given) (new : NetTold) : Type 0 where
  pub calls : new.calls ≡ old.calls ++ Gave link frame given ∷ []
  pub opened : IsFlags new.opened old.opened
  pub held : (id : ℕ) → new.held id ≡ true → old.held id ≡ true
  pub missed : IsFlags new.missed old.missed
  pub room : new.room ≡ old.room
  pub waiting : new.waiting ≡ old.waiting

-- What a release does, where it gave the link and where it gave None: the link is neither held nor
-- open, and its events wait no longer. It gives the link exactly where it was held.
pub record Releases (old : NetTold) (link : LinkId) (gave : Bool) (new : NetTold) : Type 0 where
  pub calls : new.calls ≡ old.calls
  pub gives : gave ≡ old.held link.0
  pub opened : IsFlags new.opened (without_link link old.opened)
  pub held : IsFlags new.held (without_link link old.held)
  pub missed : IsFlags new.missed (if gave then old.missed else with_link link old.missed)
  pub room : new.room ≡ old.room
  pub waiting : Waits (λ (before after : List LinkEvent). after ≡ events_beside link before) old.waiting new.waiting

-- What adopting a link does, under the name that it gets here: it is held and open, and the events that
-- came along wait, in their order.
pub record Adopts (old : NetTold) (link : LinkId) (carried : List LinkEvent) (new : NetTold) : Type 0 where
  pub calls : new.calls ≡ old.calls
  pub closed : old.opened link.0 ≡ false
  pub free : old.held link.0 ≡ false
  pub opened : IsFlags new.opened (with_link link old.opened)
  pub held : IsFlags new.held (with_link link old.held)
  pub missed : IsFlags new.missed old.missed
  pub room : new.room ≡ old.room
  pub waiting : Waits (λ (before after : List LinkEvent). (events_beside link after ≡ before) × (events_at link after ≡ map (renamed link) carried)) old.waiting new.waiting

-- The net changes so, where it tells. It tells before and after, or neither time.
abbrev pub Tells : (NetTold → NetTold → Type 0) → Option NetTold → Option NetTold → Type 0
Tells Change None None = ⊤
Tells Change None (Some new) = ⊥
Tells Change (Some old) None = ⊥
Tells Change (Some old) (Some new) = Change old new

-- What a take answered, and nothing where memory was wanting.
abbrev pub TakeTold : Option NetTold → Result Taken Memory → Option NetTold → Type 0
TakeTold old (Ok taken) new = Tells (λ (a b : NetTold). Takes a taken b) old new
TakeTold old (Err e) new = new ≡ old

-- The same of a give.
abbrev pub GiveTold : Option NetTold → LinkId → List ℕ → Result Given Memory → Option NetTold → Type 0
GiveTold old link frame (Ok given) new = Tells (λ (a b : NetTold). Gives a link frame given b) old new
GiveTold old link frame (Err e) new = new ≡ old

-- A net over which nothing was taken or given yet, and over which so many links may open.
pub record IsQuiet (most : Option ℕ) (net : NetTold) : Type 0 where
  pub held : (id : ℕ) → net.held id ≡ false
  pub opened : (id : ℕ) → net.opened id ≡ false
  pub missed : (id : ℕ) → net.missed id ≡ false
  pub calls : net.calls ≡ []
  pub room : net.room ≡ most
