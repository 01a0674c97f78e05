-- Which requests and responses are read again from what is written of them.
use Rattle.wire_body.specs.declared.states.TheConstants.{BODY_LIMIT}
use Rattle.std.specs.Prelude.{ℕ, ◌≡◌, ◌≤◌, Bool, true, not, ◌&&◌, ◌==◌, nat_lt, List, [], ◌∷◌, reverse, length, Option, Some, None, if◌then◌else◌}
use Rattle.std.specs.List.{list_all}
use Rattle.std.specs.Char.{is_ascii_graphic}
use Rattle.http_message.specs.declared.Method.{Method}
use Rattle.http_message.specs.declared.Method.TheVariants.{Get, Post, Other}
use Rattle.http_message.specs.declared.Request.{Request}
use Rattle.http_message.specs.declared.Response.{Response}
use Rattle.http_head.specs.declared.framing.Framing.{Framing}
use Rattle.http_head.specs.declared.framing.Framing.TheVariants.{Empty, Sized}
use Rattle.http_head.specs.declared.parts.RequestParts.{RequestParts}
use Rattle.http_head.specs.declared.parts.ResponseParts.{ResponseParts}
use Rattle.http_head.specs.Lines.{is_shown}
use Rattle.http_message.specs.Statuses.{is_bodiless}

-- some bytes, each from 33 to 126
abbrev pub is_word : List ℕ → Bool
is_word text = nat_lt 0 (length text) && list_all is_ascii_graphic text

-- no blank stands first
abbrev pub starts_shut : List ℕ → Bool
starts_shut [] = true
starts_shut (b ∷ bytes) = not (b == 32)

-- bytes from 32 to 126, without a blank at an end
abbrev pub is_clean : List ℕ → Bool
is_clean text = (starts_shut text && starts_shut (reverse text)) && list_all is_shown text

-- the same of a text that may be there
abbrev pub is_clean_or_none : Option (List ℕ) → Bool
is_clean_or_none None = true
is_clean_or_none (Some text) = is_clean text

-- a get without a body, or a post
abbrev pub IsAsked : Method → List ℕ → Type 0
IsAsked Get body = body ≡ []
IsAsked Post body = Unit {0}
IsAsked Other body = ⊥

-- the body that its head tells
abbrev pub framing_told : Method → List ℕ → Framing
framing_told Get body = Empty
framing_told Post body = Sized (length body)
framing_told Other body = Empty

-- a request that is read again
pub record IsReadableRequest (host : List ℕ) (r : Request) : Type 0 where
  pub asked : IsAsked r.method r.body
  pub to_host : is_word host ≡ true
  pub target : is_word r.target ≡ true
  pub lock : is_clean_or_none r.lock ≡ true
  pub over : is_clean_or_none r.over ≡ true
  pub body : length r.body ≤ BODY_LIMIT

-- what its head says
abbrev pub request_parts : Request → RequestParts
request_parts r = record { method = r.method; target = r.target; lock = r.lock; over = r.over; old_lock = r.old_lock; framing = framing_told r.method r.body }

-- a response that is read again
pub record IsReadableResponse (r : Response) : Type 0 where
  pub low : 100 ≤ r.status
  pub high : r.status ≤ 999
  pub lock : is_clean_or_none r.lock ≡ true
  pub bodiless : is_bodiless r.status ≡ true → r.body ≡ []
  pub body : length r.body ≤ BODY_LIMIT

-- what its head says
abbrev pub response_parts : Response → ResponseParts
response_parts r = record { status = r.status; lock = r.lock; framing = if is_bodiless r.status then Empty else Sized (length r.body) }
