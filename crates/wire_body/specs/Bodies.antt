-- A body, byte by byte: what each byte does, what all the bytes together make, and what they say.
use Rattle.std.specs.Prelude.{ℕ, ◌+◌, ◌-◌, ◌*◌, Bool, true, false, ◌==◌, nat_le, if◌then◌else◌, List, [], ◌∷◌, ◌++◌, Option, Some, None, Result, Ok, Err}
use Rattle.std.specs.Char.{is_ascii_hexdigit, digit_value}
use Rattle.httparse.specs.Grammar.{is_ows, is_token_byte, is_value_byte}
use Rattle.httparse.specs.Ascii.{line_feed, carriage_return, colon, semicolon}
use Rattle.outside.specs.declared.faults.WireFault.{WireFault}
use Rattle.outside.specs.declared.faults.WireFault.TheVariants.{BodyTooLong, BadChunk, CutOff}
use Rattle.wire_body.specs.declared.states.BodyState.{BodyState}
use Rattle.wire_body.specs.declared.states.TheConstants.{BODY_LIMIT, FRAMING_LIMIT, LINE_LIMIT}
use Rattle.wire_body.specs.declared.states.Phase.{Phase}
use Rattle.wire_body.specs.declared.states.Phase.TheVariants.{Counted, Open, Full, Size, Digits, Pad, Extension, SizeEnd, Data, DataEnd, DataFeed, Trailer, Name, Value, ValueEnd, LastEnd, Done, TooLong, Bad}

abbrev pub in_phase : Phase → BodyState → BodyState
in_phase phase s = record s { phase = phase }

-- at the first byte of a line, or of the trailers
abbrev pub on_new_line : Phase → BodyState → BodyState
on_new_line phase s = record s { phase = phase; left = 0; line = LINE_LIMIT }

-- a body that isn't there
abbrev pub no_body : BodyState
no_body = record { phase = Done; left = 0; room = 0; line = 0 }

-- a body with a stated length
abbrev pub body_of : ℕ → BodyState
body_of len =
    if len == 0 then no_body
    else if nat_le len BODY_LIMIT then record { phase = Counted; left = len; room = 0; line = 0 }
    else record { phase = TooLong; left = 0; room = 0; line = 0 }

-- a body in chunks
abbrev pub chunked_body : BodyState
chunked_body = record { phase = Size; left = 0; room = BODY_LIMIT; line = LINE_LIMIT }

-- a body that has all bytes to the end of the wire
abbrev pub open_body : BodyState
open_body = record { phase = Open; left = BODY_LIMIT; room = 0; line = 0 }

-- this byte and no other goes on
abbrev pub expects : ℕ → BodyState → BodyState → ℕ → BodyState
expects wanted next s b = if b == wanted then next else in_phase Bad s

-- so many bytes of content less to come, and behind the last the next phase
abbrev pub taken : Phase → ℕ → BodyState → BodyState
taken next count s = if nat_le s.left count then record s { phase = next; left = 0 } else record s { left = s.left - count }

-- a chunk's size with one more digit, which no longer size makes good where it is past the room
abbrev pub with_digit : BodyState → ℕ → BodyState
with_digit s b =
    let size = 16 * s.left + digit_value b in
    if nat_le size s.room then record s { phase = Digits; left = size } else in_phase TooLong s

-- behind a chunk's size: blanks, an extension, the end of the line
abbrev pub behind_size : BodyState → ℕ → BodyState
behind_size s b =
    if is_ows b then in_phase Pad s
    else if b == semicolon then in_phase Extension s
    else expects carriage_return (in_phase SizeEnd s) s b

-- behind the line of a chunk's size: so many bytes of content, or the trailers where it is 0
abbrev pub behind_size_line : BodyState → BodyState
behind_size_line s = if s.left == 0 then on_new_line Trailer s else record s { phase = Data; room = s.room - s.left }

-- a line's end: a line feed, with or without a carriage return before it
abbrev pub ends_line : Phase → BodyState → BodyState → ℕ → BodyState
ends_line feed next s b = if b == carriage_return then in_phase feed s else expects line_feed next s b

-- one byte of a chunk's size line or of the trailers
abbrev pub line_step : Phase → BodyState → ℕ → BodyState
line_step Size s b = if is_ascii_hexdigit b then with_digit s b else in_phase Bad s
line_step Digits s b = if is_ascii_hexdigit b then with_digit s b else behind_size s b
line_step Pad s b = behind_size s b
line_step Extension s b = if b == carriage_return then in_phase SizeEnd s else if b == line_feed then in_phase Bad s else s
line_step SizeEnd s b = expects line_feed (behind_size_line s) s b
line_step Trailer s b = if is_token_byte b then in_phase Name s else ends_line LastEnd (in_phase Done s) s b
line_step Name s b = if is_token_byte b then s else expects colon (in_phase Value s) s b
line_step Value s b = if is_value_byte b then s else ends_line ValueEnd (in_phase Trailer s) s b
line_step ValueEnd s b = expects line_feed (in_phase Trailer s) s b
line_step LastEnd s b = expects line_feed (in_phase Done s) s b
line_step _ s b = s

-- the same within what the line, or the trailers, may still have
abbrev pub within_line : BodyState → ℕ → BodyState
within_line s b = if s.line == 0 then in_phase Bad s else line_step s.phase (record s { line = s.line - 1 }) b

-- the state behind one more byte, by the phase before it
abbrev pub step_in : Phase → BodyState → ℕ → BodyState
step_in Counted s b = taken Done 1 s
step_in Open s b = taken Full 1 s
step_in Full s b = in_phase TooLong s
step_in Data s b = taken DataEnd 1 s
step_in DataEnd s b = expects carriage_return (in_phase DataFeed s) s b
step_in DataFeed s b = expects line_feed (on_new_line Size s) s b
step_in Done s b = s
step_in TooLong s b = s
step_in Bad s b = s
step_in _ s b = within_line s b

-- the state behind one more byte
abbrev pub step : BodyState → ℕ → BodyState
step s b = step_in s.phase s b

-- whether the next byte is content
abbrev pub is_content : Phase → Bool
is_content Counted = true
is_content Open = true
is_content Data = true
is_content _ = false

-- the phase behind the last byte of content
abbrev pub behind : Phase → Phase
behind Counted = Done
behind Open = Full
behind Data = DataEnd
behind p = p

-- whether no byte changes anything any more
abbrev pub is_final : Phase → Bool
is_final Done = true
is_final TooLong = true
is_final Bad = true
is_final _ = false

-- where bytes lead, and the content that they gave
pub record Reached : Type 0 where
  pub state : BodyState
  pub body : List ℕ

abbrev pub reached : BodyState → List ℕ → Reached
reached s body = record { state = s; body = body }

-- all bytes, one after another
unfoldable pub run : BodyState → List ℕ → List ℕ → Reached
run s body [] = reached s body
run s body (b ∷ bytes) = run (step s b) (if is_content s.phase then body ++ b ∷ [] else body) bytes

-- 1 where the next byte is framing, else 0
abbrev pub framing_at : Phase → ℕ
framing_at Size = 1
framing_at Digits = 1
framing_at Pad = 1
framing_at Extension = 1
framing_at SizeEnd = 1
framing_at DataEnd = 1
framing_at DataFeed = 1
framing_at Trailer = 1
framing_at Name = 1
framing_at Value = 1
framing_at ValueEnd = 1
framing_at LastEnd = 1
framing_at _ = 0

-- how many of the bytes are framing
unfoldable pub framing_in : BodyState → List ℕ → ℕ
framing_in s [] = 0
framing_in s (b ∷ bytes) = framing_at s.phase + framing_in (step s b) bytes

-- what is said where the wire ended there, and where it didn't: a body, a fault, or that more bytes are needed
abbrev pub verdict : Phase → List ℕ → Bool → Option (Result (List ℕ) WireFault)
verdict Done body ended = Some (Ok body)
verdict TooLong body ended = Some (Err BodyTooLong)
verdict Bad body ended = Some (Err BadChunk)
verdict Open body ended = if ended then Some (Ok body) else None
verdict Full body ended = if ended then Some (Ok body) else None
verdict _ body ended = if ended then Some (Err CutOff) else None

-- the same behind so much framing, which makes the chunks bad where it is past its limit
abbrev pub verdict_behind : ℕ → Phase → List ℕ → Bool → Option (Result (List ℕ) WireFault)
verdict_behind framing phase body ended = if nat_le framing FRAMING_LIMIT then verdict phase body ended else Some (Err BadChunk)

-- what the bytes of a body say
abbrev pub body_says : BodyState → List ℕ → Bool → Option (Result (List ℕ) WireFault)
body_says start bytes ended = let r = run start [] bytes in verdict_behind (framing_in start bytes) r.state.phase r.body ended
