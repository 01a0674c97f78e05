-- The one frame that bytes could be: if they are a frame's, then this one's. `read_frame` finds it and
-- takes it where its bytes are these.
use Rattle.std.specs.Prelude.{ℕ, ◌+◌, Bool, not, ◌&&◌, ◌==◌, nat_eq, nat_le, List, ◌∷◌, [], length, take, drop, codes, slice_index, Option, None, Some, Result, Ok, Err, if◌then◌else◌}
use Rattle.std.specs.Char.{is_ascii_digit}
use Rattle.std.specs.List.{find, position_or_len, before_first, after_first, starts_with}
use Rattle.std.specs.Str.{bytes_eq}
use Rattle.cool_base.specs.Numbers.{number}
use Rattle.cool_base.specs.Points.{Rectangle}
use Rattle.cool_base.specs.declared.ids.Wid.{Wid}
use Rattle.kit_trait.specs.declared.values.KitName.{KitName}
use Rattle.kit_trait.specs.declared.values.KitName.TheVariants.{Patch, Sheet}
use Rattle.tile_key.specs.Places.{Place, key_at}
use Rattle.cool_frame.specs.declared.frame.Frame.{Frame}
use Rattle.cool_frame.specs.declared.frame.Frame.TheVariants.{Server, Status, Invalidate, SaveDone, Error, Tile}
use Rattle.cool_frame.specs.declared.fault.FrameFault.{FrameFault}
use Rattle.cool_frame.specs.declared.fault.FrameFault.TheVariants.{WrongLength, NotAFrame}
use Rattle.cool_frame.specs.declared.kind.ErrorKind.{ErrorKind}
use Rattle.cool_frame.specs.declared.kind.ErrorKind.TheVariants.{BadMessage, NotLoaded, AlreadyLoaded, BadUrl, LoadFailed, DocsFull, BookFull, MailFull, DocGone, BadFile, ViewsFull, ReadOnly, InputsFull, SavesFull, BadTile, TooLarge, AskedFull, SaveFailed}
use Rattle.cool_frame.specs.Frames.{kind_text, frame_bytes, tile_line}
use Rattle.cool_words.specs.Words.{is_command, is_letter}
use Rattle.cool_frame.specs.Reading.{has_code, picture_length}

infixl 10 ◌>>=◌
abbrev pub ◌>>=◌ : {A B : Type 0} → Option A → (A → Option B) → Option B
None >>= f = None
(Some x) >>= f = f x

-- the text from its first digit on
abbrev pub from_digit : List ℕ → List ℕ
from_digit text = drop (position_or_len is_ascii_digit text) text

abbrev pub is_other : ℕ → Bool
is_other byte = not (is_ascii_digit byte)

-- the first number in a text, of at most `limit`, and what stands behind it
unfoldable pub number_in : (limit : ℕ) → List ℕ → Option (ℕ × List ℕ)
number_in limit text =
    number 20 limit (before_first is_other (from_digit text)) >>= λ n. Some (n, drop (position_or_len is_other (from_digit text)) (from_digit text))

abbrev pub is_equals : ℕ → Bool
is_equals byte = byte == 61

abbrev pub is_mark : ℕ → Bool
is_mark byte = not (is_letter byte)

-- the letters behind the first equals sign of a text
unfoldable pub word_in : List ℕ → List ℕ
word_in text = before_first is_mark (after_first is_equals text)

-- what stands behind these letters
unfoldable pub behind_word : List ℕ → List ℕ
behind_word text = drop (position_or_len is_mark (after_first is_equals text)) (after_first is_equals text)

-- all kinds of error
abbrev pub kinds : List ErrorKind
kinds =
    BadMessage ∷ NotLoaded ∷ AlreadyLoaded ∷ BadUrl ∷ LoadFailed ∷ DocsFull ∷ BookFull ∷ MailFull ∷ DocGone ∷ BadFile ∷ ViewsFull
    ∷ ReadOnly ∷ InputsFull ∷ SavesFull ∷ BadTile ∷ TooLarge ∷ AskedFull ∷ SaveFailed ∷ []

-- the kind of error of this name
unfoldable pub kind_of : List ℕ → Option ErrorKind
kind_of text = find (λ kind. bytes_eq (kind_text kind) text) kinds

abbrev pub small : ℕ
small = 4294967295

abbrev pub large : ℕ
large = 18446744073709551615

abbrev pub kit_in : List ℕ → KitName
kit_in text = if starts_with nat_eq text (codes "status: type=sheet") then Sheet else Patch

unfoldable pub status_in : List ℕ → Option Frame
status_in text = do
  parts ← number_in small text
  current ← number_in small parts.1
  width ← number_in 2147483647 current.1
  height ← number_in 2147483647 width.1
  view ← number_in small height.1
  Some (Status (kit_in text) parts.0 (record { w = width.0; h = height.0 }) (record { 0 = view.0 }) (bytes_eq view.1 (codes " readonly=1")))

-- the rectangle, where its sums are below 2 ^ 32
abbrev pub invalidation_of : ℕ → Rectangle → Option Frame
invalidation_of part rect =
    if nat_le (rect.x + rect.w) small && nat_le (rect.y + rect.h) small then Some (Invalidate part rect) else None

unfoldable pub invalidation_in : List ℕ → Option Frame
invalidation_in text = do
  part ← number_in small text
  x ← number_in small part.1
  y ← number_in small x.1
  w ← number_in small y.1
  h ← number_in small w.1
  invalidation_of part.0 (record { x = x.0; y = y.0; w = w.0; h = h.0 })

unfoldable pub saved_in : List ℕ → Option Frame
saved_in text = do
  inputs ← number_in large text
  Some (SaveDone inputs.0 (bytes_eq inputs.1 (codes ",\"put\":true}")))

-- whether there is a code exactly where the kind has one
abbrev pub is_coded : ErrorKind → Option ℕ → Bool
is_coded kind None = not (has_code kind)
is_coded kind (Some code) = has_code kind

abbrev pub code_in : List ℕ → Option ℕ
code_in text = number_in 65535 text >>= λ code. Some code.0

-- the refusal, where its command is one and its kind has a code exactly where there is one
abbrev pub refusal_of : List ℕ → ErrorKind → Option ℕ → Option Frame
refusal_of cmd kind code = if is_command cmd && is_coded kind code then Some (Error cmd kind code) else None

unfoldable pub refusal_in : List ℕ → Option Frame
refusal_in text = do
  kind ← kind_of (word_in (behind_word text))
  refusal_of (word_in text) kind (code_in (behind_word (behind_word text)))

-- the frame that a line could be, by its first byte
unfoldable pub likely : List ℕ → Option Frame
likely text =
    let first = slice_index text 0 in
    if first == 99 then Some Server
    else
    (if first == 115 then status_in text
    else
    (if first == 105 then invalidation_in text
    else
    (if first == 117 then saved_in text
    else
    (if first == 101 then refusal_in text else None))))

-- a line is read as the frame that it could be, where this has the same bytes
abbrev pub taken : List ℕ → Option Frame → Result Frame FrameFault
taken bytes None = Err NotAFrame
taken bytes (Some frame) = if bytes_eq (frame_bytes frame) bytes then Ok frame else Err NotAFrame

-- the look that the line of a tile names behind the sizes, and what stands behind it
unfoldable pub look_in : List ℕ → ℕ × List ℕ
look_in text = if bytes_eq (take 10 text) (codes " nviewid=1") then (1, drop 10 text) else (0, text)

-- the place that the line of a tile could name, and what stands behind it
unfoldable pub place_in : List ℕ → Option (Place × List ℕ)
place_in text = do
  part ← number_in small text
  width ← number_in small part.1
  height ← number_in small width.1
  posx ← number_in small height.1
  posy ← number_in small posx.1
  tilewidth ← number_in small posy.1
  tileheight ← number_in small tilewidth.1
  Some (
    record {
      part = part.0;
      width = width.0;
      height = height.0;
      posx = posx.0;
      posy = posy.0;
      tilewidth = tilewidth.0;
      tileheight = tileheight.0;
      nviewid = (look_in tileheight.1).0;
    },
    (look_in tileheight.1).1,
  )

-- what the line of a tile could name: its key, version and number
unfoldable pub tile_in : List ℕ → Option (Place × ℕ × Wid)
tile_in text = do
  place ← place_in text
  key ← key_at place.0
  ver ← number_in large place.1
  wid ← number_in large ver.1
  Some (key, ver.0, record { 0 = wid.0 })

-- a tile of so many bytes
abbrev pub tile_of : Place → ℕ → Wid → List ℕ → Result Frame FrameFault
tile_of key ver wid pixels = if nat_eq (length pixels) (picture_length key) then Ok (Tile key ver wid pixels) else Err WrongLength

abbrev pub tile_taken : List ℕ → Option (Place × ℕ × Wid) → Result Frame FrameFault
tile_taken bytes None = Err NotAFrame
tile_taken bytes (Some tile) =
    let line = tile_line tile.0 tile.1 tile.2 in
    if bytes_eq (take (length line) bytes) line then tile_of tile.0 tile.1 tile.2 (drop (length line) bytes) else Err NotAFrame

-- what bytes are read as
unfoldable pub reading : List ℕ → Result Frame FrameFault
reading bytes = if slice_index bytes 0 == 116 then tile_taken bytes (tile_in bytes) else taken bytes (likely bytes)
