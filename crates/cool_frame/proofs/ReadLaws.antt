-- Each frame is read as itself, and so no two frames have the same bytes.
use Rattle.std.proofs.Common.{◌≡◌, ℕ, ◌==◌, true, false, List, ◌++◌, length, Some, Result, Ok, Err, IfErr, nat_eq, refl, ap, eq-eqb, ne_eqb}
use Rattle.std.specs.List.{slice_index}
use Rattle.std.proofs.Math.Seq.{drop-append_seam}
use Rattle.cool_base.specs.declared.ids.Wid.{Wid}
use Rattle.tile_key.specs.Places.{Place}
use Rattle.cool_frame.specs.declared.frame.Frame.{Frame}
use Rattle.cool_frame.specs.declared.frame.Frame.TheVariants.{Server, Status, Invalidate, SaveDone, Error, Tile}
use Rattle.cool_frame.specs.declared.fault.FrameFault.{FrameFault}
use Rattle.cool_frame.specs.declared.fault.FrameFault.TheVariants.{WrongLength, NotAFrame, Memory}
use Rattle.cool_frame.specs.Frames.{frame_bytes, tile_line, server_bytes}
use Rattle.cool_frame.specs.Likely.{likely, reading, tile_in, tile_of}
use Rattle.cool_frame.specs.Reading.{IsFrame, IsTileLine, HasWrongLength, IsNoFrame, Says, Gives, picture_length}
use Rattle.cool_frame.proofs.LineAgain.{status_bytes, status_again, invalidate_bytes, invalidation_again, saved_bytes_are, saved_again, error_bytes, refusal_again}
use Rattle.cool_frame.proofs.Same.{bytes_same, prefix_passes}
use Rattle.cool_frame.proofs.TileAgain.{tile_bytes, tile_again}

-- a line that is no tile's is read as the frame that it could be, where this has its bytes
line_reads : (frame : Frame) (text : List ℕ) → frame_bytes frame ≡ text → likely text ≡ Some frame → (slice_index text 0 == 116) ≡ false → reading text ≡ Ok frame
unfolding reading
line_reads frame text is found first = rw (first, found, is, bytes_same text) refl

-- a tile's line with any bytes behind it is read as a tile of these
tile_reads : (key : Place) (ver : ℕ) (wid : Wid) (pixels : List ℕ) → IsTileLine key ver wid → reading (tile_line key ver wid ++ pixels) ≡ tile_of key ver wid pixels
unfolding reading
tile_reads key ver wid pixels line =
    let first : (slice_index (tile_line key ver wid ++ pixels) 0 == 116) ≡ true = rw (tile_bytes key ver wid pixels) refl in
    let found : tile_in (tile_line key ver wid ++ pixels) ≡ Some (key, ver, wid) = rw (tile_bytes key ver wid pixels) (tile_again key ver wid pixels line) in
    rw (first, found, prefix_passes (tile_line key ver wid) pixels, drop-append_seam (tile_line key ver wid) pixels) refl

-- each frame is read as itself
pub reads_again : (frame : Frame) → IsFrame frame → reading (frame_bytes frame) ≡ Ok frame
unfolding frame_bytes likely
reads_again Server is = line_reads Server server_bytes refl refl refl
reads_again (Status kit parts size view readonly) is =
    rw (status_bytes kit parts size view readonly) (line_reads (Status kit parts size view readonly) _ (status_bytes kit parts size view readonly) (status_again kit parts size view readonly is.0 is.1 is.2) refl)
reads_again (Invalidate part rect) is =
    rw (invalidate_bytes part rect) (line_reads (Invalidate part rect) _ (invalidate_bytes part rect) (invalidation_again part rect is.0 is.1 is.2) refl)
reads_again (SaveDone inputs put) is =
    rw (saved_bytes_are inputs put) (line_reads (SaveDone inputs put) _ (saved_bytes_are inputs put) (saved_again inputs put is) refl)
reads_again (Error cmd kind code) is =
    rw (error_bytes cmd kind code) (line_reads (Error cmd kind code) _ (error_bytes cmd kind code) (refusal_again cmd kind code is.0 is.1) refl)
reads_again (Tile key ver wid pixels) is =
    let whole : nat_eq (length pixels) (picture_length key) ≡ true = eq-eqb (length pixels) (picture_length key) is.1 in
    rw (tile_reads key ver wid pixels is.0, whole) refl

-- a tile of a wrong length is read as that
pub wrong_reads : (bytes : List ℕ) → HasWrongLength bytes → reading bytes ≡ Err WrongLength
wrong_reads bytes h =
    let other : nat_eq (length h.pixels) (picture_length h.key) ≡ false = ne_eqb (length h.pixels) (picture_length h.key) h.differs in
    rw (h.bytes_are, tile_reads h.key h.ver h.wid h.pixels h.line, other) refl

pub no_frame : (bytes : List ℕ) → reading bytes ≡ Err NotAFrame → IsNoFrame bytes
no_frame bytes none = record {
  none = λ frame is e. let again : reading bytes ≡ Ok frame = rw (← e) (reads_again frame is) in cc;
  no_tile = λ h. let wrong : reading bytes ≡ Err WrongLength = wrong_reads bytes h in cc;
}

-- what a fault of reading says of the bytes
pub says_by : (bytes : List ℕ) (r : Result Frame FrameFault) → Gives r (reading bytes) → (r ≡ Err WrongLength → HasWrongLength bytes) → IfErr r (Says bytes)
says_by bytes (Ok frame) g wrong = tt
says_by bytes (Err WrongLength) g wrong = wrong refl
says_by bytes (Err NotAFrame) g wrong = no_frame bytes g
says_by bytes (Err Memory) g wrong = tt

-- a frame's bytes are read as the frame, unless memory runs out
pub gives_again : (bytes : List ℕ) (r : Result Frame FrameFault) → Gives r (reading bytes) → (frame : Frame) → IsFrame frame → frame_bytes frame ≡ bytes → Gives r (Ok frame)
gives_again bytes r g frame is e =
    let again : reading bytes ≡ Ok frame = rw (← e) (reads_again frame is) in
    rw again at g

-- a tile of a wrong length is read as that, unless memory runs out
pub gives_wrong : (bytes : List ℕ) (r : Result Frame FrameFault) → Gives r (reading bytes) → HasWrongLength bytes → Gives r (Err WrongLength)
gives_wrong bytes r g h =
    let wrong : reading bytes ≡ Err WrongLength = wrong_reads bytes h in
    rw wrong at g

pub one_frame : (frame other : Frame) → IsFrame frame → IsFrame other → frame_bytes frame ≡ frame_bytes other → frame ≡ other
one_frame frame other a b e =
    let first : reading (frame_bytes frame) ≡ Ok frame = reads_again frame a in
    let second : reading (frame_bytes other) ≡ Ok other = reads_again other b in
    let same : reading (frame_bytes frame) ≡ reading (frame_bytes other) = ap reading e in
    cc

pub whole_tile : (frame : Frame) → IsFrame frame → ¬ HasWrongLength (frame_bytes frame)
whole_tile frame is h =
    let first : reading (frame_bytes frame) ≡ Ok frame = reads_again frame is in
    let second : reading (frame_bytes frame) ≡ Err WrongLength = wrong_reads (frame_bytes frame) h in
    cc
