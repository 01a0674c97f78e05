-- What a script writes: records of frames, and the line that names a fault.
use Rattle.std.specs.Prelude.{ℕ, ◌≡◌, ◌<◌, List, ◌++◌, length, Option, codes}
use Rattle.std.specs.Fmt.{decimal}
use Rattle.outside.specs.Streams.{Adds}

-- the record of a frame: the link and the frame's length, a newline, the frame's bytes, a newline
abbrev pub record_of : ℕ → List ℕ → List ℕ
record_of link frame = (decimal link ++ (codes " " ++ (decimal (length frame) ++ codes "\n"))) ++ frame ++ codes "\n"

-- the last line of a script that was refused at a line
abbrev pub fault_text : ℕ → List ℕ
fault_text number = codes "fault line " ++ (decimal number ++ codes "\n")

-- these bytes are a front of the others
pub record IsFront (part whole : List ℕ) : Type 0 where
  pub behind : List ℕ
  pub is : whole ≡ part ++ behind

-- a front of the bytes was added, and something is left of them
pub record AddsPart (old : Option (List ℕ)) (bytes : List ℕ) (new : Option (List ℕ)) : Type 0 where
  pub part : List ℕ
  pub behind : List ℕ
  pub is : bytes ≡ part ++ behind
  pub more : 0 < length behind
  pub added : Adds old part new
