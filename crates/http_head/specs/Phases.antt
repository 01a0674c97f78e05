-- Which bytes can end a head, by the phase in it behind which they come, and where a byte leads.
use Rattle.std.specs.Prelude.{ℕ, ◌≡◌, ◌+◌, ◌-◌, ◌≤◌, ◌⊎◌, ◌==◌, ◌||◌, nat_lt, Bool, true, false, All, List, [], ◌∷◌, ◌++◌, length, if◌then◌else◌, codes}
use Rattle.std.specs.Char.{is_ascii_digit, is_ascii_graphic}
use Rattle.httparse.specs.Grammar.{is_token_byte, is_value_byte, AllPass, LineEnd, print_end, print_blank, Field, IsField, print_section}
use Rattle.http_head.specs.Corners.{ends_in}
use Rattle.http_head.specs.declared.phases.Opening.{Opening}
use Rattle.http_head.specs.declared.phases.Opening.TheVariants.{Request, Response}
use Rattle.http_head.specs.declared.phases.Letter.{Letter}
use Rattle.http_head.specs.declared.phases.Letter.TheVariants.{H, FirstT, SecondT, P, Slash, One, Dot}
use Rattle.http_head.specs.declared.phases.HeadPhase.{HeadPhase}
use Rattle.http_head.specs.declared.phases.HeadPhase.TheVariants.{Blank, BlankFeed, Method, TargetStart, Target, Version, Minor, VersionEnd, StatusBlank, Digits, LineFeed, Line, Name, Value, Lost}

-- ---- the bytes that end a head

-- this front, and then bytes that go on so
abbrev pub Then : List ℕ → (List ℕ → Type 0) → List ℕ → Type 0
Then front next text = (rest : List ℕ) × (text ≡ front ++ rest) × next rest

-- bytes of a class, or none, and then bytes that go on so
abbrev pub Word : (ℕ → Bool) → (List ℕ → Type 0) → List ℕ → Type 0
Word test next text = (word : List ℕ) × AllPass test word × Then word next text

-- the same with one byte of the class at least
abbrev pub FullWord : (ℕ → Bool) → (List ℕ → Type 0) → List ℕ → Type 0
FullWord test next text = (b : ℕ) × (test b ≡ true) × Then (b ∷ []) (Word test next) text

-- a line's end, and then bytes that go on so
abbrev pub EndOfLine : (List ℕ → Type 0) → List ℕ → Type 0
EndOfLine next text = (end : LineEnd) × Then (print_end end) next text

-- at most so many lines of names and values, and the empty line
abbrev pub LinesEnd : ℕ → List ℕ → Type 0
LinesEnd left text =
    (fields : List Field) × (last : LineEnd) × All IsField fields × (length fields ≤ left)
    × (text ≡ print_section fields last)

-- the rest of a value, or of a reason, and at most so many lines
abbrev pub ValueEnds : ℕ → List ℕ → Type 0
ValueEnds left text = Word is_value_byte (EndOfLine (LinesEnd left)) text

-- the rest of a name, its value, and at most so many lines
abbrev pub NameEnds : ℕ → List ℕ → Type 0
NameEnds left text = Word is_token_byte (Then (58 ∷ []) (ValueEnds left)) text

-- one line more than a head may have: it may begin, and is too many where it ends
abbrev pub open_lines : ℕ
open_lines = 65

-- behind a status: a reason or none
abbrev pub CodeEnds : List ℕ → Type 0
CodeEnds text = EndOfLine (LinesEnd open_lines) text ⊎ Then (32 ∷ []) (ValueEnds open_lines) text

-- so many digits of a status, and what is behind it
abbrev pub DigitsEnd : ℕ → List ℕ → Type 0
DigitsEnd left text =
    (digits : List ℕ) × (length digits ≡ left) × AllPass is_ascii_digit digits
    × Then digits CodeEnds text

-- what is behind the version
abbrev pub BehindVersion : Opening → List ℕ → Type 0
BehindVersion Request text = EndOfLine (LinesEnd open_lines) text
BehindVersion Response text = Then (32 ∷ []) (DigitsEnd 3) text

-- the version's last digit, and what is behind it
abbrev pub MinorEnds : Opening → List ℕ → Type 0
MinorEnds opening text =
    (minor : ℕ) × (minor ≤ 1) × Then ((48 + minor) ∷ []) (BehindVersion opening) text

-- the version from this letter on
abbrev pub letters_from : Letter → List ℕ
letters_from H = codes "HTTP/1."
letters_from FirstT = codes "TTP/1."
letters_from SecondT = codes "TP/1."
letters_from P = codes "P/1."
letters_from Slash = codes "/1."
letters_from One = codes "1."
letters_from Dot = codes "."

-- the version from this letter on, and what is behind it
abbrev pub VersionEnds : Opening → Letter → List ℕ → Type 0
VersionEnds opening letter text = Then (letters_from letter) (MinorEnds opening) text

-- behind a target: a blank and the version
abbrev pub BehindTarget : List ℕ → Type 0
BehindTarget text = Then (32 ∷ []) (VersionEnds Request H) text

-- behind a method: a blank and the target
abbrev pub BehindMethod : List ℕ → Type 0
BehindMethod text = Then (32 ∷ []) (FullWord is_ascii_graphic BehindTarget) text

-- the first line and all behind it
abbrev pub FirstLine : Opening → List ℕ → Type 0
FirstLine Request text = FullWord is_token_byte BehindMethod text
FirstLine Response text = VersionEnds Response H text

-- the same behind empty lines
abbrev pub HeadEnds : Opening → List ℕ → Type 0
HeadEnds opening text =
    (blank : List LineEnd) × Then (print_blank blank) (FirstLine opening) text

-- the bytes end a head from there
abbrev pub Ends : HeadPhase → List ℕ → Type 0
Ends (Blank opening) text = HeadEnds opening text
Ends (BlankFeed opening) text = Then (10 ∷ []) (HeadEnds opening) text
Ends Method text = Word is_token_byte BehindMethod text
Ends TargetStart text = FullWord is_ascii_graphic BehindTarget text
Ends Target text = Word is_ascii_graphic BehindTarget text
Ends (Version opening letter) text = VersionEnds opening letter text
Ends (Minor opening) text = MinorEnds opening text
Ends VersionEnd text = EndOfLine (LinesEnd open_lines) text
Ends StatusBlank text = Then (32 ∷ []) (DigitsEnd 3) text
Ends (Digits left) text = DigitsEnd left text
Ends (LineFeed left) text = Then (10 ∷ []) (LinesEnd left) text
Ends (Line left) text = LinesEnd left text
Ends (Name left) text = NameEnds left text
Ends (Value left) text = ValueEnds left text
Ends Lost text = ⊥

-- ---- what is promised of phases

-- the bytes lead from one phase to the other: what ends a head behind them ends it with them before
pub record Leads (first : HeadPhase) (bytes : List ℕ) (last : HeadPhase) : Type 0 where
  pub ends : (text : List ℕ) → Ends last text → Ends first (bytes ++ text)

-- bytes in which two lines end or more end a head from there
pub record IsOpen (phase : HeadPhase) : Type 0 where
  pub text : List ℕ
  pub ends : Ends phase text
  pub two : 2 ≤ ends_in text

-- bytes that lead from there to an open phase begin a head
pub record Opens (begins : List ℕ → Type 0) (first : HeadPhase) : Type 0 where
  pub begun : (bytes : List ℕ) (last : HeadPhase) → Leads first bytes last → IsOpen last
      → begins bytes

-- ---- where a byte leads

-- the byte of a letter of the version
abbrev pub letter_byte : Letter → ℕ
letter_byte H = 72
letter_byte FirstT = 84
letter_byte SecondT = 84
letter_byte P = 80
letter_byte Slash = 47
letter_byte One = 49
letter_byte Dot = 46

-- behind a letter of the version
abbrev pub behind_letter : Opening → Letter → HeadPhase
behind_letter opening H = Version opening FirstT
behind_letter opening FirstT = Version opening SecondT
behind_letter opening SecondT = Version opening P
behind_letter opening P = Version opening Slash
behind_letter opening Slash = Version opening One
behind_letter opening One = Version opening Dot
behind_letter opening Dot = Minor opening

-- behind the version
abbrev pub behind_version : Opening → HeadPhase
behind_version Request = VersionEnd
behind_version Response = StatusBlank

-- this byte and no other goes on
abbrev pub wanted : ℕ → HeadPhase → ℕ → HeadPhase
wanted byte next b = if b == byte then next else Lost

-- the end of a line behind which so many lines may begin
abbrev pub end_step : ℕ → ℕ → HeadPhase
end_step left b = if b == 10 then Line left else wanted 13 (LineFeed left) b

-- bytes of the class stay there, and this one goes on
abbrev pub word_step : Bool → HeadPhase → ℕ → HeadPhase → ℕ → HeadPhase
word_step passes here byte next b = if passes then here else wanted byte next b

-- the first byte of the first line
abbrev pub first_step : Opening → ℕ → HeadPhase
first_step Request b = if is_token_byte b then Method else Lost
first_step Response b = wanted 72 (Version Response FirstT) b

-- a byte before the first line
abbrev pub blank_step : Opening → ℕ → HeadPhase
blank_step opening b =
    if b == 10 then Blank opening
    else if b == 13 then BlankFeed opening
    else first_step opening b

-- a byte of a status, of which so many digits are to come
abbrev pub digit_step : ℕ → ℕ → HeadPhase
digit_step left b =
    if left == 0 then (if b == 32 then Value open_lines else end_step open_lines b)
    else if is_ascii_digit b then Digits (left - 1)
    else Lost

-- the first byte of a line: a name's, since an empty line's leaves no open head
abbrev pub line_step : ℕ → ℕ → HeadPhase
line_step left b =
    if left == 0 then Lost
    else if is_token_byte b then Name (left - 1)
    else Lost

-- where one byte leads
abbrev pub step : HeadPhase → ℕ → HeadPhase
step (Blank opening) b = blank_step opening b
step (BlankFeed opening) b = wanted 10 (Blank opening) b
step Method b = word_step (is_token_byte b) Method 32 TargetStart b
step TargetStart b = if is_ascii_graphic b then Target else Lost
step Target b = word_step (is_ascii_graphic b) Target 32 (Version Request H) b
step (Version opening letter) b = wanted (letter_byte letter) (behind_letter opening letter) b
step (Minor opening) b = if b == 48 || b == 49 then behind_version opening else Lost
step VersionEnd b = end_step open_lines b
step StatusBlank b = wanted 32 (Digits 3) b
step (Digits left) b = digit_step left b
step (LineFeed left) b = wanted 10 (Line left) b
step (Line left) b = line_step left b
step (Name left) b = word_step (is_token_byte b) (Name left) 58 (Value left) b
step (Value left) b = if is_value_byte b then Value left else end_step left b
step Lost b = Lost

-- where bytes lead
abbrev pub steps : HeadPhase → List ℕ → HeadPhase
steps phase [] = phase
steps phase (b ∷ bytes) = steps (step phase b) bytes

-- whether bytes that led there are known to begin a head
abbrev pub is_open : HeadPhase → Bool
is_open (Line left) = nat_lt 0 left
is_open Lost = false
is_open _ = true
