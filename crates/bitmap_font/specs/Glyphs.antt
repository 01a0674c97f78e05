-- The glyphs: six dots wide and eight high. The fifth column, counted from 0, is empty in all of them.
use Rattle.std.specs.Prelude.{ℕ, ◌-◌, ◌/◌, ◌%◌, Bool, ◌&&◌, nat_lt, nat_le, nat_eq, List, [], ◌∷◌, length, codes, slice_index, slice_index_or, if◌then◌else◌}
use Rattle.std.specs.Int.{bit_at}
use Rattle.std.specs.Str.Parse.{digits_value}

-- the glyphs of the characters from 32 to 126: ten hexadecimal digits each, two for each of the columns 0 to 4
unfoldable pub printed : List (List ℕ)
printed =
    codes "0000000000" ∷ codes "00005F0000" ∷ codes "0007000700" ∷ codes "147F147F14" ∷ codes "242A7F2A12" ∷ codes "2313086462" ∷ codes "3649562050" ∷ codes "0008070300" ∷
    codes "001C224100" ∷ codes "0041221C00" ∷ codes "2A1C7F1C2A" ∷ codes "08083E0808" ∷ codes "0080703000" ∷ codes "0808080808" ∷ codes "0000606000" ∷ codes "2010080402" ∷
    codes "3E5149453E" ∷ codes "00427F4000" ∷ codes "7249494946" ∷ codes "2141494D33" ∷ codes "1814127F10" ∷ codes "2745454539" ∷ codes "3C4A494931" ∷ codes "4121110907" ∷
    codes "3649494936" ∷ codes "464949291E" ∷ codes "0000140000" ∷ codes "0040340000" ∷ codes "0008142241" ∷ codes "1414141414" ∷ codes "0041221408" ∷ codes "0201590906" ∷
    codes "3E415D594E" ∷ codes "7C1211127C" ∷ codes "7F49494936" ∷ codes "3E41414122" ∷ codes "7F4141413E" ∷ codes "7F49494941" ∷ codes "7F09090901" ∷ codes "3E41415173" ∷
    codes "7F0808087F" ∷ codes "00417F4100" ∷ codes "2040413F01" ∷ codes "7F08142241" ∷ codes "7F40404040" ∷ codes "7F021C027F" ∷ codes "7F0408107F" ∷ codes "3E4141413E" ∷
    codes "7F09090906" ∷ codes "3E4151215E" ∷ codes "7F09192946" ∷ codes "2649494932" ∷ codes "03017F0103" ∷ codes "3F4040403F" ∷ codes "1F2040201F" ∷ codes "3F4038403F" ∷
    codes "6314081463" ∷ codes "0304780403" ∷ codes "6159494D43" ∷ codes "007F414141" ∷ codes "0204081020" ∷ codes "004141417F" ∷ codes "0402010204" ∷ codes "4040404040" ∷
    codes "0003070800" ∷ codes "2054547840" ∷ codes "7F28444438" ∷ codes "3844444428" ∷ codes "384444287F" ∷ codes "3854545418" ∷ codes "00087E0902" ∷ codes "18A4A49C78" ∷
    codes "7F08040478" ∷ codes "00447D4000" ∷ codes "2040403D00" ∷ codes "7F10284400" ∷ codes "00417F4000" ∷ codes "7C04780478" ∷ codes "7C08040478" ∷ codes "3844444438" ∷
    codes "FC18242418" ∷ codes "18242418FC" ∷ codes "7C08040408" ∷ codes "4854545424" ∷ codes "04043F4424" ∷ codes "3C4040207C" ∷ codes "1C2040201C" ∷ codes "3C4030403C" ∷
    codes "4428102844" ∷ codes "4C9090907C" ∷ codes "4464544C44" ∷ codes "0008364100" ∷ codes "0000770000" ∷ codes "0041360800" ∷ codes "0201020402" ∷ []

-- the glyph of every other character: a box
unfoldable pub box : List ℕ
box = codes "7F4141417F"

-- the columns that hexadecimal digits write, two digits each
abbrev pub columns : List ℕ → List ℕ
columns (high ∷ low ∷ digits) = digits_value 16 (high ∷ low ∷ []) ∷ columns digits
columns _ = []

-- the columns of a character's glyph
unfoldable pub glyph_of : ℕ → List ℕ
glyph_of c = columns (if nat_le 32 c && nat_le c 126 then slice_index_or printed (c - 32) box else box)

-- whether a character's glyph has the dot in column x and row y, counted from the left and from the top:
-- bit y of column x
unfoldable pub dot_of : ℕ → ℕ → ℕ → Bool
dot_of c x y = nat_eq (bit_at (slice_index (glyph_of c) x) y) 1

-- whether a point so many twips right of a text's beginning and below its upper edge lies on a dot of these
-- characters: they stand side by side, each 90 twips wide, and a dot has 15 by 15 twips
abbrev pub has_dot : List ℕ → ℕ → ℕ → Bool
has_dot text across down =
    nat_lt (across / 90) (length text) && dot_of (slice_index text (across / 90)) (across % 90 / 15) (down / 15)
