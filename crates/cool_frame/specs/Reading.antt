-- What frames there are, and what bytes are one.
use Rattle.std.specs.Prelude.{◌≡◌, ◌≢◌, ℕ, ◌+◌, ◌*◌, ◌^◌, ◌<◌, Bool, true, false, List, ◌++◌, length, IsTrue, Option, None, Some, Result, Ok, Err}
use Rattle.cool_base.specs.declared.ids.Wid.{Wid}
use Rattle.cool_words.specs.Words.{is_command}
use Rattle.tile_key.specs.Places.{Place, IsKey}
use Rattle.tile_key.specs.Visible.{IsPart}
use Rattle.cool_frame.specs.declared.frame.Frame.{Frame}
use Rattle.cool_frame.specs.declared.frame.Frame.TheVariants.{Server, Status, Invalidate, SaveDone, Error, Tile}
use Rattle.cool_frame.specs.declared.kind.ErrorKind.{ErrorKind}
use Rattle.cool_frame.specs.declared.kind.ErrorKind.TheVariants.{LoadFailed, SaveFailed}
use Rattle.cool_frame.specs.declared.fault.FrameFault.{FrameFault}
use Rattle.cool_frame.specs.declared.fault.FrameFault.TheVariants.{WrongLength, NotAFrame, Memory}
use Rattle.cool_frame.specs.Frames.{frame_bytes, tile_line}

-- the kinds of error that have a code
abbrev pub has_code : ErrorKind → Bool
has_code LoadFailed = true
has_code SaveFailed = true
has_code _ = false

-- the code of an error: a number below 65,536 exactly where the kind has one
abbrev pub IsCode : ErrorKind → Option ℕ → Type 0
IsCode kind None = has_code kind ≡ false
IsCode kind (Some code) = (has_code kind ≡ true) × (code < 2 ^ 16)

-- the count of bytes of a tile's picture, four a pixel
abbrev pub picture_length : Place → ℕ
picture_length key = 4 * (key.width * key.height)

-- what a tile's line may name: a key, and numbers within their types
pub record IsTileLine (key : Place) (ver : ℕ) (wid : Wid) : Type 0 where
  pub form : IsKey key
  pub part : key.part < 2 ^ 32
  pub version : ver < 2 ^ 64
  pub number : wid.0 < 2 ^ 64

-- one of the protocol's frames
abbrev pub IsFrame : Frame → Type 0
IsFrame Server = Unit {0}
IsFrame (Status kit parts size view readonly) = (parts < 2 ^ 32) × IsPart size × (view.0 < 2 ^ 32)
IsFrame (Invalidate part rect) = (part < 2 ^ 32) × (rect.x + rect.w < 2 ^ 32) × (rect.y + rect.h < 2 ^ 32)
IsFrame (SaveDone inputs put) = inputs < 2 ^ 64
IsFrame (Error cmd kind code) = IsTrue (is_command cmd) × IsCode kind code
IsFrame (Tile key ver wid pixels) = IsTileLine key ver wid × (length pixels ≡ picture_length key)

-- the bytes are a tile's line with its newline, and behind it not as many bytes as its picture has
pub record HasWrongLength (bytes : List ℕ) : Type 0 where
  pub key : Place
  pub ver : ℕ
  pub wid : Wid
  pub pixels : List ℕ
  pub line : IsTileLine key ver wid
  pub bytes_are : bytes ≡ tile_line key ver wid ++ pixels
  pub differs : length pixels ≢ picture_length key

-- the bytes are those of no frame, and no tile of a wrong length either
pub record IsNoFrame (bytes : List ℕ) : Type 0 where
  pub none : (frame : Frame) → IsFrame frame → frame_bytes frame ≢ bytes
  pub no_tile : ¬ HasWrongLength bytes

-- what a fault says of the bytes
abbrev pub Says : List ℕ → FrameFault → Type 0
Says bytes WrongLength = HasWrongLength bytes
Says bytes NotAFrame = IsNoFrame bytes
Says bytes Memory = Unit {0}

-- the result is this one, unless memory ran out
abbrev pub Gives : Result Frame FrameFault → Result Frame FrameFault → Type 0
Gives (Ok frame) wanted = wanted ≡ Ok frame
Gives (Err WrongLength) wanted = wanted ≡ Err WrongLength
Gives (Err NotAFrame) wanted = wanted ≡ Err NotAFrame
Gives (Err Memory) wanted = Unit {0}
