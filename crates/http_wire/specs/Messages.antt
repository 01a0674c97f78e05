-- What the bytes of a message say, whatever its kind of head.
use Rattle.std.specs.Prelude.{ℕ, ◌≡◌, ◌+◌, ◌<◌, ◌≤◌, Bool, false, if◌then◌else◌, List, length, ◌++◌, take, drop, ⊤, Option, Some, None, Result, Ok, Err}
use Rattle.outside.specs.declared.faults.WireFault.{WireFault}
use Rattle.outside.specs.declared.faults.WireFault.TheVariants.{BadHead, HeadTooLong, CutOff}
use Rattle.outside.specs.Wires.{Talk, Hears}
use Rattle.http_head.specs.declared.TheConstants.{HEAD_LIMIT}
use Rattle.http_head.specs.declared.framing.Framing.{Framing}
use Rattle.http_head.specs.declared.framing.Framing.TheVariants.{Empty, Sized, Chunked, ToEnd}
use Rattle.http_head.specs.declared.parts.Scan.{Scan}
use Rattle.http_head.specs.declared.parts.Scan.TheVariants.{Whole, Begun, NoHead}
use Rattle.wire_body.specs.declared.faults.HttpFault.{HttpFault}
use Rattle.wire_body.specs.declared.faults.HttpFault.TheVariants.{Wire, Memory as NoMemory}
use Rattle.wire_body.specs.declared.states.BodyState.{BodyState}
use Rattle.wire_body.specs.Bodies.{no_body, body_of, chunked_body, open_body, body_says}
use Rattle.wire_body.specs.Reads.{AllButLast, FaultSaid, Stops}

-- where the body behind a head begins
abbrev pub start_of : Framing → BodyState
start_of Empty = no_body
start_of (Sized len) = body_of len
start_of Chunked = chunked_body
start_of ToEnd = open_body

-- a kind of head: bytes are a whole one that says this and then the rest, begin one, or begin
-- none; the body behind one that says this; the message that it makes with the bytes of a body.
-- Bytes that come after a whole head are more of the rest
pub record Kind (P M : Type 0) : Type 1 where
  pub reads : List ℕ → P → List ℕ → Type 0
  pub begins : List ℕ → Type 0
  pub refuses : List ℕ → Type 0
  pub framing : P → Framing
  pub message : P → List ℕ → M
  pub grows : (bytes : List ℕ) (parts : P) (rest more : List ℕ) → reads bytes parts rest
      → reads (bytes ++ more) parts (rest ++ more)

-- what a scan for such a head answers
abbrev pub Scans : {P M : Type 0} → Kind P M → List ℕ → Scan P → Type 0
Scans k bytes (Whole parts len) = (len ≤ length bytes) × k.reads bytes parts (drop len bytes)
Scans k bytes Begun = k.begins bytes
Scans k bytes NoHead = k.refuses bytes

-- what stands at the front of all bytes: no head, too much of one, the beginning of one, or a whole
-- one
pub data Front {P M : Type 0} (k : Kind P M) (bytes : List ℕ) : Type 0 where
  Refused : k.refuses (take HEAD_LIMIT bytes) → Front k bytes
  Longer : HEAD_LIMIT ≤ length bytes → k.begins (take HEAD_LIMIT bytes) → Front k bytes
  Open : length bytes < HEAD_LIMIT → k.begins bytes → Front k bytes
  Headed : (parts : P) (rest : List ℕ) → k.reads bytes parts rest
      → length bytes ≤ HEAD_LIMIT + length rest → Front k bytes

-- the message with what the body's bytes say
abbrev pub with_body : {P M : Type 0} → Kind P M → P → Option (Result (List ℕ) WireFault)
    → Option (Result M WireFault)
with_body k parts None = None
with_body k parts (Some (Ok body)) = Some (Ok (k.message parts body))
with_body k parts (Some (Err fault)) = Some (Err fault)

-- what all bytes say, where the wire ended behind them and where it didn't: a message, a fault, or
-- that more are needed
abbrev pub message_said : {P M : Type 0} {k : Kind P M} {bytes : List ℕ} → Front k bytes → Bool
    → Option (Result M WireFault)
message_said (Refused none) ended = Some (Err BadHead)
message_said (Longer full begun) ended = Some (Err HeadTooLong)
message_said (Open less begun) ended = if ended then Some (Err CutOff) else None
message_said {k = k} (Headed parts rest whole within) ended =
    with_body k parts (body_says (start_of (k.framing parts)) rest ended)

-- the bytes say nothing yet
abbrev pub SaysNothing : {P M : Type 0} → Kind P M → List ℕ → Type 0
SaysNothing k bytes = (front : Front k bytes) × (message_said front false ≡ None)

-- the answer is what the bytes say, no end was asked for behind a message that was whole without
-- it, and all bytes but the last piece said nothing yet; where memory ran out they may say anything
abbrev pub IsAnswer : {P M : Type 0} → Kind P M → List ℕ → Bool → Result M HttpFault → Type 0
IsAnswer k bytes ended (Ok m) =
    (front : Front k bytes) × (message_said front ended ≡ Some (Ok m))
    × Stops (message_said front false) ended × AllButLast (SaysNothing k) bytes
IsAnswer k bytes ended (Err NoMemory) = ⊤
IsAnswer k bytes ended (Err (Wire fault)) =
    (front : Front k bytes) × FaultSaid (message_said front ended) fault
    × Stops (message_said front false) ended × AllButLast (SaysNothing k) bytes

-- bytes were received, with the end or without, and the answer is what they say
abbrev pub ReadsMessage : {P M : Type 0} → Kind P M → Option Talk → Option Talk
    → Result M HttpFault → Type 0
ReadsMessage k old new result =
    (bytes : List ℕ) × (ended : Bool) × Hears old bytes ended new
    × IsAnswer k bytes ended result

-- bytes were received that begin with a whole head within its limit, of which all but the last
-- piece said nothing yet, and no end came
pub record GotHead
    {P M : Type 0} (k : Kind P M) (old new : Option Talk) (parts : P) (bytes : List ℕ) (len : ℕ)
    : Type 0 where
  pub heard : Hears old bytes false new
  pub within : length bytes ≤ HEAD_LIMIT
  pub inside : len ≤ length bytes
  pub reads : k.reads bytes parts (drop len bytes)
  pub late : AllButLast (SaysNothing k) bytes
