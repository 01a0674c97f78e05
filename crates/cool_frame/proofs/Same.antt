-- Bytes that are the same, and a prefix and what stands behind it.
use Rattle.std.proofs.Common.{◌≡◌, ◌≢◌, ℕ, true, List, [], ◌∷◌, ◌++◌, length, take, drop, refl, sym, eq-eqb, rules, take-append-drop, Result, IfOk}
use Rattle.std.proofs.lemmas.Slice.Eq.{bytes_eq-Decides}
use Rattle.std.proofs.Math.Seq.{take-append_seam}
use Rattle.std.specs.Str.{bytes_eq}
use Rattle.cool_base.specs.declared.ids.Wid.{Wid}
use Rattle.tile_key.specs.Places.{Place}
use Rattle.cool_frame.specs.declared.frame.Frame.{Frame}
use Rattle.cool_frame.specs.declared.fault.FrameFault.{FrameFault}
use Rattle.cool_frame.specs.Frames.{frame_bytes, tile_line}
use Rattle.cool_frame.specs.Reading.{IsTileLine, HasWrongLength, picture_length}

-- the same bytes pass the test
pub bytes_same : (xs : List ℕ) → bytes_eq xs xs ≡ true
bytes_same [] = refl
bytes_same (x ∷ xs) = rw (eq-eqb x x refl, bytes_same xs) refl

-- what begins with a prefix, and goes on
pub prefix_passes : (line rest : List ℕ) → bytes_eq (take (length line) (line ++ rest)) line ≡ true
prefix_passes line rest = rw (take-append_seam line rest) (bytes_same line)

-- a tile of a wrong length
pub wrong_by : (key : Place) (ver : ℕ) (wid : Wid) (pixels bytes : List ℕ) → IsTileLine key ver wid → bytes ≡ tile_line key ver wid ++ pixels → length pixels ≢ picture_length key → HasWrongLength bytes
wrong_by key ver wid pixels bytes line is differs = record { key = key; ver = ver; wid = wid; pixels = pixels; line = line; bytes_are = is; differs = differs }

bytes_are : (xs ys : List ℕ) → bytes_eq xs ys ≡ true → xs ≡ ys
bytes_are xs ys h = search (rules, bytes_eq-Decides)

-- bytes that begin with a line are the line and what stands behind it
pub bytes_behind : (bytes line rest : List ℕ) → bytes_eq (take (length line) bytes) line ≡ true → rest ≡ drop (length line) bytes → bytes ≡ line ++ rest
bytes_behind bytes line rest begins is =
    let same : take (length line) bytes ≡ line = bytes_are (take (length line) bytes) line begins in
    let whole : take (length line) bytes ++ drop (length line) bytes ≡ bytes = take-append-drop (length line) bytes in
    rw is (sym (rw same at whole))

-- what has the bytes of the line and of what stands behind it has the bytes
pub same_behind : (bytes whole : List ℕ) (r : Result Frame FrameFault) → bytes ≡ whole → IfOk r (λ frame. frame_bytes frame ≡ whole) → IfOk r (λ frame. frame_bytes frame ≡ bytes)
same_behind bytes whole r e same = rw e same
