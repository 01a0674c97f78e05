-- What the command `host` does: one request over each wire, answered by the host's table.
use Rattle.std.specs.Prelude.{ℕ, ◌≡◌, ◌⊎◌, nat_eq, true, ◌<◌, ◌≤◌, List, [], ◌∷◌, ◌++◌, length, Option, Some, None, Result, Ok, Err}
use Rattle.std.specs.Option.{option_map}
use Rattle.outside.specs.Causes.{HasCause}
use Rattle.outside.specs.Wires.{Talk, Says}
use Rattle.net_traits.specs.Clocks.{Ticks}
use Rattle.outside.specs.declared.faults.WireFault.{WireFault}
use Rattle.outside.specs.declared.faults.WireFault.TheVariants.{ReadFault}
use Rattle.http_message.specs.declared.Request.{Request}
use Rattle.http_message.specs.declared.Response.{Response}
use Rattle.wire_body.specs.declared.faults.HttpFault.TheVariants.{Wire, Memory as NoMemory}
use Rattle.http_wire.specs.Messages.{ReadsMessage}
use Rattle.http_wire.specs.Kinds.{requests}
use Rattle.http_write.specs.Texts.{response_bytes}
use Rattle.http_write.specs.Writes.{SaysSome}
use Rattle.wopi_host.specs.Keepers.{Holdings}
use Rattle.wopi_host.specs.Marks.{unmarked}
use Rattle.wopi_host.specs.Hosts.{HostAt, HostAnswers, HostStays}
use Rattle.wopi_host.specs.Kept.{keeper_of, host_at}
use Rattle.wopi_host.specs.declared.hosts.Host.{Host}
use Rattle.server_words.specs.Hosts.{HostWords, host_said}
use Rattle.edge.specs.declared.EdgeFault.{EdgeFault}
use Rattle.edge.specs.declared.EdgeFault.TheVariants.{Net, Memory as EdgeMemory}
use Rattle.edge.specs.Edges.{EdgeTold, WireEnd, Stock, IsNew, keeper_given, keeper_closed}

-- What the host stands on: what its keeper holds, the locks and puts, its keeper's count of faults,
-- and the moments to come of its clock.
pub record Hosting : Type 0 where
  pub host : HostAt
  pub faults : ℕ
  pub moments : Option (List ℕ)

-- The host's answer to a request at a moment: by its table, or 500, exactly where a call of the
-- keeper failed.
pub record Responds (a : Hosting) (request : Request) (now : ℕ) (response : Response) (b : Hosting)
    : Type 0 where
  pub answers : HostAnswers a.host request now response b.host
  pub cause : HasCause a.faults b.faults (nat_eq response.status 500 ≡ true)

-- The same of a host and a clock.
abbrev pub hosting : {Q C : Type 0} → (Q → Holdings) → (Q → ℕ) → (C → Option (List ℕ))
    → Host Q → C → Hosting
hosting holds faults moments host clock =
    record { host = host_at holds host; faults = faults (keeper_of host); moments = moments clock }

-- What a wire tells when it is closed.
abbrev pub wire_end : {W : Type 0} → (W → Option Talk) → (W → ℕ) → W → WireEnd
wire_end talk faults wire = record { talk = talk wire; faults = faults wire }

-- A request was read from the wire, over which nothing was said before.
pub record Asks (request : Request) (asked : Option Talk) : Type 0 where
  pub start : Option Talk
  pub new : IsNew start
  pub reads : ReadsMessage requests start asked (Ok request)

-- A request that was read, the moment that the clock gave, and what the host answered.
pub record Answering (a : Hosting) (response : Response) (asked : Option Talk) (b : Hosting)
    : Type 0 where
  pub request : Request
  pub now : ℕ
  pub asks : Asks request asked
  pub ticks : Ticks a.moments now b.moments
  pub responds : Responds a request now response b

-- One wire is served: its bytes are no request, and it gets nothing and nothing changes; or it
-- gets the bytes of the response; or it gets a front of them, and the wire had a fault.
pub data Serves (a : Hosting) (wire : WireEnd) (b : Hosting) : Type 0 where
  Refused : (fault : WireFault) (start : Option Talk) → IsNew start
      → ReadsMessage requests start wire.talk (Err (Wire fault))
      → (fault ≡ ReadFault → 0 < wire.faults) → b ≡ a → Serves a wire b
  Answered : (response : Response) (asked : Option Talk) → Answering a response asked b
      → Says asked (response_bytes response) wire.talk → Serves a wire b
  CutShort : (response : Response) (asked : Option Talk) → Answering a response asked b
      → SaysSome asked (response_bytes response) wire.talk → 0 < wire.faults → Serves a wire b

-- Memory ran out at one wire, which got nothing: while its request was read, while it was answered,
-- which changes nothing but the clock, or before the response was sent.
pub data RunsOut (a : Hosting) (wire : WireEnd) (b : Hosting) : Type 0 where
  WhileReading : (start : Option Talk) → IsNew start
      → ReadsMessage requests start wire.talk (Err NoMemory) → b ≡ a → RunsOut a wire b
  WhileAnswering : (request : Request) (now : ℕ) → Asks request wire.talk
      → Ticks a.moments now b.moments → HostStays a.host b.host → b.faults ≡ a.faults → RunsOut a wire b
  BeforeWriting : (response : Response) (asked : Option Talk) → Answering a response asked b
      → wire.talk ≡ asked → RunsOut a wire b

-- The wires are served in order.
abbrev pub ServesAll : Hosting → List WireEnd → Hosting → Type 0
ServesAll a [] b = b ≡ a
ServesAll a (wire ∷ wires) b = (c : Hosting) × Serves a wire c × ServesAll c wires b

-- The edge closed these wires, in order, and no other is out.
abbrev pub wires_closed : List WireEnd → EdgeTold → EdgeTold
wires_closed ends t =
    record t { wires = option_map (λ (wires : List WireEnd). wires ++ ends) t.wires }

-- What came of the next wire: it was accepted, served and closed; or the edge failed and gave
-- none; or memory ran out, before a wire was accepted or at one that was closed.
abbrev pub ServesNext : EdgeTold → Hosting → Result (Unit {0}) EdgeFault → EdgeTold → Hosting
    → Type 0
ServesNext t1 a (Ok done) t2 b =
    (wire : WireEnd) × (t2 ≡ wires_closed (wire ∷ []) t1) × Serves a wire b
ServesNext t1 a (Err Net) t2 b = (t2 ≡ t1) × (b ≡ a)
ServesNext t1 a (Err EdgeMemory) t2 b =
    ((t2 ≡ t1) × (b ≡ a))
    ⊎ ((wire : WireEnd) × (t2 ≡ wires_closed (wire ∷ []) t1) × RunsOut a wire b)

-- The status by which a program ends that the edge gave nothing.
abbrev pub fault_status : EdgeFault → ℕ
fault_status Net = 8
fault_status EdgeMemory = 6

-- How the serving of wires ends: with status 0 where so many were wanted and served; with 8 where
-- the edge failed after wires that were all served; with 6 where memory ran out, at the edge or at
-- the last wire.
pub data Ends (wanted status : ℕ) (a : Hosting) (ends : List WireEnd) (b : Hosting) : Type 0 where
  Done : status ≡ 0 → 0 < wanted → length ends ≡ wanted → ServesAll a ends b
      → Ends wanted status a ends b
  EdgeFailed : status ≡ 8 → ServesAll a ends b → Ends wanted status a ends b
  OutOfMemory : status ≡ 6 → ServesAll a ends b → Ends wanted status a ends b
  OutAtLast : (front : List WireEnd) (last : WireEnd) (c : Hosting) → status ≡ 6
      → ends ≡ front ++ last ∷ [] → ServesAll a front c → RunsOut c last b → Ends wanted status a ends b

-- Wires were accepted, served and closed, one after the other, at most so many as were wanted where
-- that isn't 0.
pub record ServesWires (wanted : ℕ) (t1 : EdgeTold) (a : Hosting) (status : ℕ) (t2 : EdgeTold)
    (b : Hosting) : Type 0 where
  pub ends : List WireEnd
  pub told : t2 ≡ wires_closed ends t1
  pub most : 0 < wanted → length ends ≤ wanted
  pub ended : Ends wanted status a ends b

-- The host stands on this stock: what its keeper holds and its count of faults are those.
abbrev pub IsStock : Hosting → Stock → Type 0
IsStock a stock = (a.host.held ≡ stock.held) × (a.faults ≡ stock.faults)

-- The keeper that the edge gave, as it was then and when it was closed, and the wires in between.
-- At first no file has a lock or a put, and the clock is the edge's.
pub record Hosts (said : HostWords) (t1 : EdgeTold) (status : ℕ) (t2 : EdgeTold) : Type 0 where
  pub first : Stock
  pub last : Stock
  pub start : Hosting
  pub end : Hosting
  pub between : EdgeTold
  pub stocked : IsStock start first
  pub unlocked : (id : List ℕ) → start.host.pages id ≡ unmarked
  pub clock : start.moments ≡ t1.moments
  pub kept : IsStock end last
  pub served : ServesWires said.requests (keeper_given first t1) start status between end
  pub closed : t2 ≡ keeper_closed last between

-- What comes of words that say this: there is no memory for the keeper, or the edge fails to give
-- one, and the edge has given nothing; or there is no memory for the host, which then keeps the
-- keeper; or the host served.
pub data ServesSaid (said : HostWords) (t1 : EdgeTold) (status : ℕ) (t2 : EdgeTold) : Type 0 where
  KeeperOut : status ≡ 6 → t2 ≡ t1 → ServesSaid said t1 status t2
  NoKeeper : status ≡ 8 → t2 ≡ t1 → ServesSaid said t1 status t2
  HostOut : (first : Stock) → status ≡ 6 → t2 ≡ keeper_given first t1 → ServesSaid said t1 status t2
  Hosted : Hosts said t1 status t2 → ServesSaid said t1 status t2

-- What the program does: words that are refused give status 2, and nothing is asked of the edge.
-- Where there is no memory for the words, the status is 6 and nothing is asked either.
pub data HostServes (words : List (List ℕ)) (t1 : EdgeTold) (status : ℕ) (t2 : EdgeTold)
    : Type 0 where
  Refuses : host_said words ≡ None → status ≡ 2 → t2 ≡ t1 → HostServes words t1 status t2
  WordsOut : status ≡ 6 → t2 ≡ t1 → HostServes words t1 status t2
  Said : (said : HostWords) → host_said words ≡ Some said → ServesSaid said t1 status t2
      → HostServes words t1 status t2
