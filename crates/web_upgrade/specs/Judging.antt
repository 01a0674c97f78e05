-- What the bytes of a request for a WebSocket come to.
use Rattle.std.specs.Prelude.{ℕ, ◌≡◌, ◌≤◌, ◌<◌, ⊤, List, ◌++◌, length, take, drop, codes, Option, Some, Result, Ok, Err}
use Rattle.httparse.specs.Grammar.{RequestHead}
use Rattle.http_head.specs.declared.parts.RequestParts.{RequestParts}
use Rattle.http_head.specs.Requests.{ReadsPlain, ReadsRequestHead, BeginsRequest, IsNoRequest, request_fields, request_said}
use Rattle.websocket.specs.Handshake.{requested_key, IsValidKey, accept_key_of}
use Rattle.websocket.specs.declared.handshake.failure.HandshakeError.{HandshakeError}
use Rattle.web_upgrade.specs.Refusals.{refusal_of}
use Rattle.web_upgrade.specs.declared.refusals.Refusal.TheVariants.{Bad, TooLong}
use Rattle.web_upgrade.specs.declared.judging.Judged.{Judged}
use Rattle.web_upgrade.specs.declared.judging.Judged.TheVariants.{Begun, Upgrades, Refused}

-- A whole head of a request of so many bytes is at the front.
abbrev pub HasHead : List ℕ → ℕ → Type 0
HasHead bytes len =
    (len ≤ length bytes) × ((parts : RequestParts) × ReadsRequestHead bytes parts (drop len bytes))

-- It is this one, of at most 64 lines that don't contradict each other about the body.
pub record IsHead (bytes : List ℕ) (len : ℕ) (h : RequestHead) : Type 0 where
  pub within : len ≤ length bytes
  pub reads : ReadsPlain bytes h (drop len bytes)
  pub lines : length h.fields ≤ 64
  pub parts : RequestParts
  pub said : request_said h ≡ Some parts

-- The key of a head that asks for a WebSocket, or why it asks for none.
abbrev pub asked_key : RequestHead → Result (List ℕ) HandshakeError
asked_key h = requested_key h.method h.minor (request_fields h)

-- What is answered: a valid key is accepted by the value that the protocol of WebSocket gives for it.
abbrev pub AnswersKey : Result (List ℕ) HandshakeError → ℕ → Judged → Type 0
AnswersKey (Err e) len judged = judged ≡ Refused (refusal_of e)
AnswersKey (Ok key) len Begun = ⊥
AnswersKey (Ok key) len (Upgrades accept size) =
    IsValidKey key × (accept ≡ accept_key_of key) × (size ≡ len)
AnswersKey (Ok key) len (Refused why) = ¬ (IsValidKey key) × (why ≡ Bad)

-- The head of a request that is accepted lies in the bytes.
abbrev pub LiesIn : List ℕ → Judged → Type 0
LiesIn bytes Begun = ⊤
LiesIn bytes (Upgrades accept size) = size ≤ length bytes
LiesIn bytes (Refused why) = ⊤

-- The head of so many bytes is answered so.
abbrev pub Answered : List ℕ → ℕ → Judged → Type 0
Answered bytes len judged =
    (h : RequestHead) × IsHead bytes len h × AnswersKey (asked_key h) len judged

-- What bytes come to: they begin a head and are fewer than 16,384; so many begin one that isn't whole;
-- they begin none; or a whole head is at the front, and it is answered.
pub data Judges (bytes : List ℕ) (judged : Judged) : Type 0 where
  More : judged ≡ Begun → length bytes < 16384 → BeginsRequest bytes → Judges bytes judged
  Long : judged ≡ Refused TooLong → 16384 ≤ length bytes → BeginsRequest (take 16384 bytes)
      → Judges bytes judged
  NoHead : judged ≡ Refused Bad → IsNoRequest (take 16384 bytes) → Judges bytes judged
  Whole : (len : ℕ) → Answered (take 16384 bytes) len judged → Judges bytes judged

-- The response that opens the WebSocket.
abbrev pub accept_bytes : List ℕ → List ℕ
accept_bytes accept =
    codes "HTTP/1.1 101 Switching Protocols\r\nUpgrade: websocket\r\nConnection: Upgrade\r\nSec-WebSocket-Accept: "
    ++ accept ++ codes "\r\n\r\n"
