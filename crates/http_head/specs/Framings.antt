-- What the lines of a head say of the body behind it.
use Rattle.std.specs.Prelude.{ℕ, ◌&&◌, nat_le, ◌==◌, List, [], ◌∷◌, Option, Some, None, option_and_then, if◌then◌else◌, codes, length}
use Rattle.std.specs.Str.{str_eq_ignore_ascii_case}
use Rattle.cool_base.specs.Numbers.{is_decimal, decimal_value}
use Rattle.http_message.specs.Statuses.{is_bodiless}
use Rattle.http_head.specs.declared.framing.Framing.{Framing}
use Rattle.http_head.specs.declared.framing.Framing.TheVariants.{Empty, Sized, Chunked, ToEnd}
use Rattle.http_head.specs.declared.framing.Said.{Said}
use Rattle.http_head.specs.declared.framing.Said.TheVariants.{Nothing, Length, Chunks, Wrong}
use Rattle.http_head.specs.Lines.{is_named}

-- what a value of `Content-Length` says: 1 to 19 digits are the length that they write
abbrev pub length_said : List ℕ → Said
length_said value = if is_decimal value && nat_le (length value) 19 then Length (decimal_value value) else Wrong

-- what a value of `Transfer-Encoding` says: `chunked` alone is known, in any case
abbrev pub coding_said : List ℕ → Said
coding_said value = if str_eq_ignore_ascii_case value (codes "chunked") then Chunks else Wrong

-- what one line says
abbrev pub line_said : List ℕ × List ℕ → Said
line_said line =
    if is_named (codes "content-length") line then length_said line.1
    else (if is_named (codes "transfer-encoding") line then coding_said line.1 else Nothing)

-- a length beside another length
abbrev pub same_length : ℕ → ℕ → Said
same_length a b = if a == b then Length a else Wrong

-- what two say together: two lengths that differ are wrong, and so are a length beside a coding and
-- two codings, which together are `chunked, chunked`
abbrev pub said_together : Said → Said → Said
said_together Nothing b = b
said_together Wrong b = Wrong
said_together (Length a) Nothing = Length a
said_together (Length a) (Length b) = same_length a b
said_together (Length a) Chunks = Wrong
said_together (Length a) Wrong = Wrong
said_together Chunks Nothing = Chunks
said_together Chunks (Length b) = Wrong
said_together Chunks Chunks = Wrong
said_together Chunks Wrong = Wrong

-- what the lines say together
abbrev pub lines_said : List (List ℕ × List ℕ) → Said
lines_said [] = Nothing
lines_said (line ∷ lines) = said_together (line_said line) (lines_said lines)

-- the body of a request, which has none where nothing is said; None where what is said is wrong
abbrev pub request_framing : Said → Option Framing
request_framing Nothing = Some Empty
request_framing (Length n) = Some (Sized n)
request_framing Chunks = Some Chunked
request_framing Wrong = None

-- the body of a response, which goes to the end of the wire where nothing is said
abbrev pub said_framing : Said → Option Framing
said_framing Nothing = Some ToEnd
said_framing (Length n) = Some (Sized n)
said_framing Chunks = Some Chunked
said_framing Wrong = None

-- the same for its status
abbrev pub framing_for : ℕ → Framing → Framing
framing_for status framing = if is_bodiless status then Empty else framing

abbrev pub response_framing : ℕ → Said → Option Framing
response_framing status said = option_and_then (λ framing. Some (framing_for status framing)) (said_framing said)
