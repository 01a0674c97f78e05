-- What one talk with a host sends, and what the client hears in it.
use Rattle.std.specs.Prelude.{ℕ, ◌≡◌, ◌⊎◌, Bool, true, false, List, [], ◌∷◌, ◌++◌, Option, Result, Ok, Err, ⊤}
use Rattle.std.specs.Option.{option_map}
use Rattle.http_message.specs.declared.Response.{Response}
use Rattle.outside.specs.declared.faults.WireFault.{WireFault}
use Rattle.outside.specs.declared.faults.WireFault.TheVariants.{ReadFault, WriteFault}
use Rattle.outside.specs.declared.faults.StoreFault.{StoreFault}
use Rattle.outside.specs.declared.faults.StoreFault.TheVariants.{Wire, Memory}
use Rattle.outside.specs.Wires.{Talk, with_sent, with_received, Hears}
use Rattle.wire_body.specs.declared.faults.HttpFault.{HttpFault}
use Rattle.wire_body.specs.declared.faults.HttpFault.TheVariants as Http
use Rattle.http_wire.specs.Messages.{IsAnswer}
use Rattle.http_wire.specs.Kinds.{responses}
use Rattle.http_write.specs.Texts.{request_bytes}
use Rattle.wopi_dial.specs.Dials.{DialTold, dialled, hung_up}
use Rattle.wopi_client.specs.declared.asks.Ask.{Ask}
use Rattle.wopi_client.specs.declared.asks.Told.{Told}
use Rattle.wopi_client.specs.Asks.{request_for, Understands}

-- why no message was read or written, as the store says it
abbrev pub store_fault : HttpFault → StoreFault
store_fault (Http.Wire fault) = Wire fault
store_fault Http.Memory = Memory

-- the bytes received are this response, which the client understands so
abbrev pub IsUnderstood : Ask → List ℕ → Bool → Result Told StoreFault → Type 0
IsUnderstood ask received ended result =
    (response : Response) × IsAnswer responses received ended (Ok response) × Understands ask response result

-- the fault is the one that the bytes received say; behind a failed write none were received
abbrev pub WireSaid : List ℕ → Bool → WireFault → Type 0
WireSaid received ended WriteFault = (received ≡ []) × (ended ≡ false)
WireSaid received ended fault = IsAnswer {M = Response} responses received ended (Err (Http.Wire fault))

-- what the client reads in the bytes received; where memory ran out it may be anything
abbrev pub Heard : Ask → List ℕ → Bool → Result Told StoreFault → Type 0
Heard ask received ended (Err Memory) = ⊤
Heard ask received ended (Err (Wire fault)) = WireSaid received ended fault
Heard ask received ended result = IsUnderstood ask received ended result

-- the request may not have gone whole
abbrev pub is_cut_short : Result Told StoreFault → Bool
is_cut_short (Err (Wire WriteFault)) = true
is_cut_short (Err Memory) = true
is_cut_short _ = false

-- these bytes were sent, or a front of them
abbrev pub WentOut : Bool → List ℕ → List ℕ → Type 0
WentOut false bytes sent = sent ≡ bytes
WentOut true bytes sent = (rest : List ℕ) × (bytes ≡ sent ++ rest)

-- a talk: the request's bytes were sent, and the answer is what the bytes received say
pub record Talked (host : List ℕ) (ask : Ask) (talk : Talk) (result : Result Told StoreFault) : Type 0 where
  pub asked : WentOut (is_cut_short result) (request_bytes host (request_for ask)) talk.sent
  pub heard : Heard ask talk.received talk.ended result

-- what a wire tells behind a talk
abbrev pub after_talk : Talk → Talk → Talk
after_talk talk t = with_received talk.received talk.ended (with_sent talk.sent t)

-- over this wire
abbrev pub TalksOver : List ℕ → Ask → Option Talk → Option Talk → Result Told StoreFault → Type 0
TalksOver host ask old new result = (talk : Talk) × (new ≡ option_map (after_talk talk) old) × Talked host ask talk result

-- bytes were received over it, and the answer is what they say
abbrev pub HearsOver : Ask → Option Talk → Option Talk → Result Told StoreFault → Type 0
HearsOver ask old new result = (received : List ℕ) × (ended : Bool) × Hears old received ended new × Heard ask received ended result

-- what is answered where no wire was had
abbrev pub IsNotDialled : Result Told StoreFault → Type 0
IsNotDialled (Err (Wire ReadFault)) = ⊤
IsNotDialled (Err Memory) = ⊤
IsNotDialled _ = ⊥

-- one dial and one talk that was hung up; or one dial that gave no wire; or none, where memory was refused before
abbrev pub AskedOnce : List ℕ → Ask → Option DialTold → Option DialTold → Result Told StoreFault → Type 0
AskedOnce host ask old new result =
    ((talk : Talk) × (new ≡ option_map (λ told. hung_up talk (dialled told)) old) × Talked host ask talk result)
    ⊎ (((new ≡ option_map dialled old) × IsNotDialled result) ⊎ ((new ≡ old) × (result ≡ Err Memory)))
