-- A byte leads from one phase in a head to the next, and from each open phase a head can end.
use Rattle.std.proofs.Common.{◌≡◌, ℕ, zero, suc, ◌+◌, ◌-◌, ◌<◌, ◌≤◌, inl, inr, Bool, true, false, ◌||◌, List, [], ◌∷◌, ◌++◌, refl, sym, ap, ◌∙◌, subst, arith, length, append_assoc, eqb-true, ltb-true}
use Rattle.std.specs.Prelude.{◌==◌, if◌then◌else◌}
use Rattle.std.specs.List.{flat_map}
use Rattle.std.specs.Char.{is_ascii_digit, is_ascii_graphic}
use Rattle.std.proofs.lemmas.List.Elements.{All-nil, All-cons}
use Rattle.httparse.specs.Grammar.{is_token_byte, is_value_byte, AllPass, LineEnd, crlf, lf, print_end, print_blank, Field, print_field, IsField, print_section}
use Rattle.httparse.proofs.GrammarLemmas.{cons-append}
use Rattle.http_head.specs.Corners.{ends_in}
use Rattle.http_head.specs.declared.phases.Opening.{Opening}
use Rattle.http_head.specs.declared.phases.Opening.TheVariants.{Request, Response}
use Rattle.http_head.specs.declared.phases.Letter.{Letter}
use Rattle.http_head.specs.declared.phases.Letter.TheVariants.{H, FirstT, SecondT, P, Slash, One, Dot}
use Rattle.http_head.specs.declared.phases.HeadPhase.{HeadPhase}
use Rattle.http_head.specs.declared.phases.HeadPhase.TheVariants.{Blank, BlankFeed, Method, TargetStart, Target, Version, Minor, VersionEnd, StatusBlank, Digits, LineFeed, Line, Name, Value, Lost}
use Rattle.http_head.specs.Phases.{Then, Word, FullWord, EndOfLine, LinesEnd, ValueEnds, NameEnds, open_lines, CodeEnds, DigitsEnd, BehindVersion, MinorEnds, letters_from, VersionEnds, BehindTarget, BehindMethod, FirstLine, HeadEnds, Ends, Leads, IsOpen, letter_byte, behind_letter, behind_version, wanted, end_step, first_step, digit_step, step, steps, is_open}
use Rattle.http_head.proofs.Tails.{ends_in-append}

-- ---- one more byte before bytes that end a head

-- one branch or the other
by_test : (c : Bool) (x y : HeadPhase) (Q : HeadPhase → Type 0) → (c ≡ true → Q x)
    → (c ≡ false → Q y) → Q (if c then x else y)
by_test true x y Q passed failed = passed refl
by_test false x y Q passed failed = failed refl

-- a test that passes doesn't fail
no_test : true ≡ false → ⊥
no_test same = cc

-- a number that is not 0
positive : (n : ℕ) → (n == 0) ≡ false → 0 < n
positive zero other = absurd (no_test other)
positive (suc n) other = omega arith

-- no bytes, and one more byte, that pass a test
none_pass : (test : ℕ → Bool) → AllPass test []
none_pass test = All-nil (λ c. test c ≡ true)

pub all_more : (test : ℕ → Bool) (b : ℕ) (word : List ℕ) → test b ≡ true → AllPass test word
    → AllPass test (b ∷ word)
all_more test b word passes all = All-cons (λ c. test c ≡ true) b word passes all

-- a word of one byte or more is a word
pub full_word : (test : ℕ → Bool) (next : List ℕ → Type 0) (text : List ℕ) → FullWord test next text
    → (word : List ℕ) × (0 < length word) × AllPass test word × Then word next text
full_word test next text (b, passes, (r, e, (word, all, (rest, is, more)))) = (
  b ∷ word,
  omega arith,
  all_more test b word passes all,
  (rest, e ∙ ap (λ t. b ∷ t) is, more),
)

-- this byte, and then bytes that go on so
then_byte : (next : List ℕ → Type 0) (c b : ℕ) (text : List ℕ) → (b == c) ≡ true → next text
    → Then (c ∷ []) next (b ∷ text)
then_byte next c b text is rest = (text, ap (λ x. x ∷ text) (eqb-true b c is), rest)

-- one more byte of a word
word_more : (test : ℕ → Bool) (next : List ℕ → Type 0) (b : ℕ) (text : List ℕ) → test b ≡ true
    → Word test next text → Word test next (b ∷ text)
word_more test next b text passes (word, all, (rest, is, more)) =
    (b ∷ word, all_more test b word passes all, (rest, ap (λ t. b ∷ t) is, more))

-- no byte of a word
word_done : (test : ℕ → Bool) (next : List ℕ → Type 0) (text : List ℕ) → next text
    → Word test next text
word_done test next text more = ([], none_pass test, (text, refl, more))

-- the first byte of a word
word_first : (test : ℕ → Bool) (next : List ℕ → Type 0) (b : ℕ) (text : List ℕ) → test b ≡ true
    → Word test next text → FullWord test next (b ∷ text)
word_first test next b text passes word = (b, passes, (text, refl, word))

-- a wanted byte
wanted_leads : (byte : ℕ) (next : HeadPhase) (b : ℕ) (text : List ℕ)
    → Ends (wanted byte next b) text → Then (byte ∷ []) (Ends next) (b ∷ text)
wanted_leads byte next b text =
    by_test (b == byte) next Lost (λ q. Ends q text → Then (byte ∷ []) (Ends next) (b ∷ text))
    (λ is ends. then_byte (Ends next) byte b text is ends)
    (λ is ends. absurd ends)

-- the end of a line
end_leads : (left b : ℕ) (text : List ℕ) → Ends (end_step left b) text
    → EndOfLine (LinesEnd left) (b ∷ text)
end_leads left b text =
    by_test (b == 10) (Line left) (wanted 13 (LineFeed left) b)
    (λ q. Ends q text → EndOfLine (LinesEnd left) (b ∷ text))
    (λ is ends. (lf, then_byte (LinesEnd left) 10 b text is ends))
    (λ is ends. carriage (wanted_leads 13 (LineFeed left) b text ends))
  where
    carriage : Then (13 ∷ []) (Then (10 ∷ []) (LinesEnd left)) (b ∷ text)
        → EndOfLine (LinesEnd left) (b ∷ text)
    carriage (rest, is, (more, after, ends)) = (crlf, (more, is ∙ ap (λ t. 13 ∷ t) after, ends))

-- a byte of a word or the one behind it
word_leads : (test : ℕ → Bool) (next : List ℕ → Type 0) (here there : HeadPhase) (byte b : ℕ)
    (text : List ℕ)
    → (Ends here text → Word test next text)
    → (Then (byte ∷ []) (Ends there) (b ∷ text) → next (b ∷ text))
    → Ends (if test b then here else wanted byte there b) text → Word test next (b ∷ text)
word_leads test next here there byte b text stays goes =
    by_test (test b) here (wanted byte there b) (λ q. Ends q text → Word test next (b ∷ text))
    (λ is ends. word_more test next b text is (stays ends))
    (λ is ends. word_done test next (b ∷ text) (goes (wanted_leads byte there b text ends)))

-- a letter of the version
letter_leads : (opening : Opening) (letter : Letter) (b : ℕ) (text : List ℕ)
    → Then (letter_byte letter ∷ []) (Ends (behind_letter opening letter)) (b ∷ text)
    → VersionEnds opening letter (b ∷ text)
letter_leads opening H b text (rest, is, (more, after, ends)) =
    (more, is ∙ ap (λ t. 72 ∷ t) after, ends)
letter_leads opening FirstT b text (rest, is, (more, after, ends)) =
    (more, is ∙ ap (λ t. 84 ∷ t) after, ends)
letter_leads opening SecondT b text (rest, is, (more, after, ends)) =
    (more, is ∙ ap (λ t. 84 ∷ t) after, ends)
letter_leads opening P b text (rest, is, (more, after, ends)) =
    (more, is ∙ ap (λ t. 80 ∷ t) after, ends)
letter_leads opening Slash b text (rest, is, (more, after, ends)) =
    (more, is ∙ ap (λ t. 47 ∷ t) after, ends)
letter_leads opening One b text (rest, is, (more, after, ends)) =
    (more, is ∙ ap (λ t. 49 ∷ t) after, ends)
letter_leads opening Dot b text (rest, is, ends) = (rest, is, ends)

-- the first byte of a first line
first_leads : (opening : Opening) (b : ℕ) (text : List ℕ) → Ends (first_step opening b) text
    → FirstLine opening (b ∷ text)
first_leads Request b text =
    by_test (is_token_byte b) Method Lost (λ q. Ends q text → FirstLine Request (b ∷ text))
    (λ is ends. word_first is_token_byte BehindMethod b text is ends)
    (λ is ends. absurd ends)
first_leads Response b text =
    λ ends. letter_leads Response H b text (wanted_leads 72 (Version Response FirstT) b text ends)

-- a byte before the first line
blank_leads : (opening : Opening) (b : ℕ) (text : List ℕ) → Ends (step (Blank opening) b) text
    → HeadEnds opening (b ∷ text)
blank_leads opening b text =
    by_test (b == 10) (Blank opening) (if b == 13 then BlankFeed opening else first_step opening b)
    (λ q. Ends q text → HeadEnds opening (b ∷ text))
    (λ is ends. feed (eqb-true b 10 is) ends)
    (λ not_feed. by_test (b == 13) (BlankFeed opening) (first_step opening b)
    (λ q. Ends q text → HeadEnds opening (b ∷ text))
    (λ is ends. carriage (eqb-true b 13 is) ends)
    (λ is ends. ([], (b ∷ text, refl, first_leads opening b text ends))))
  where
    feed : b ≡ 10 → HeadEnds opening text → HeadEnds opening (b ∷ text)
    feed is (blank, (rest, all, ends)) =
        (lf ∷ blank, (rest, ap (λ x. x ∷ text) is ∙ ap (λ t. 10 ∷ t) all, ends))

    carriage : b ≡ 13 → Then (10 ∷ []) (HeadEnds opening) text → HeadEnds opening (b ∷ text)
    carriage is (more, after, (blank, (rest, all, ends))) =
        let behind : text ≡ 10 ∷ (print_blank blank ++ rest) = after ∙ ap (λ t. 10 ∷ t) all in
        (crlf ∷ blank, (rest, ap (λ x. x ∷ text) is ∙ ap (λ t. 13 ∷ t) behind, ends))

-- what is behind the version
version_leads : (opening : Opening) (text : List ℕ) → Ends (behind_version opening) text
    → BehindVersion opening text
version_leads Request text ends = ends
version_leads Response text ends = ends

-- the version's last digit
minor_leads : (opening : Opening) (b : ℕ) (text : List ℕ) → Ends (step (Minor opening) b) text
    → MinorEnds opening (b ∷ text)
minor_leads opening b text = by (b == 48) (b == 49) refl refl
  where
    digit : (minor : ℕ) → minor ≤ 1 → b ≡ 48 + minor → Ends (behind_version opening) text
        → MinorEnds opening (b ∷ text)
    digit minor small is ends =
        (minor, small, (text, ap (λ x. x ∷ text) is, version_leads opening text ends))

    by : (c d : Bool) → (b == 48) ≡ c → (b == 49) ≡ d
        → Ends (if c || d then behind_version opening else Lost) text → MinorEnds opening (b ∷ text)
    by true d is other ends = digit 0 (omega arith) (eqb-true b 48 is) ends
    by false true other is ends = digit 1 (omega arith) (eqb-true b 49 is) ends
    by false false other is ends = absurd ends

-- a byte of a status
digit_leads : (left b : ℕ) (text : List ℕ) → Ends (digit_step left b) text
    → DigitsEnd left (b ∷ text)
digit_leads left b text =
    by_test (left == 0) (if b == 32 then Value open_lines else end_step open_lines b)
    (if is_ascii_digit b then Digits (left - 1) else Lost)
    (λ q. Ends q text → DigitsEnd left (b ∷ text))
    (λ none. by_test (b == 32) (Value open_lines) (end_step open_lines b)
    (λ q. Ends q text → DigitsEnd left (b ∷ text))
    (λ is ends. last (eqb-true left 0 none)
    (inr (then_byte (ValueEnds open_lines) 32 b text is ends)))
    (λ is ends. last (eqb-true left 0 none) (inl (end_leads open_lines b text ends))))
    (λ some. by_test (is_ascii_digit b) (Digits (left - 1)) Lost
    (λ q. Ends q text → DigitsEnd left (b ∷ text))
    (λ is ends. more (positive left some) is ends)
    (λ is ends. absurd ends))
  where
    last : left ≡ 0 → CodeEnds (b ∷ text) → DigitsEnd left (b ∷ text)
    last none ends = ([], sym none, none_pass is_ascii_digit, (b ∷ text, refl, ends))

    more : 0 < left → is_ascii_digit b ≡ true → DigitsEnd (left - 1) text
        → DigitsEnd left (b ∷ text)
    more some is (digits, count, all, (rest, after, ends)) =
        let longer = all_more is_ascii_digit b digits is all in
        (b ∷ digits, omega arith, longer, (rest, ap (λ t. b ∷ t) after, ends))

-- a line before other lines
line_is : (n r : List ℕ) (e : LineEnd) (a z : List ℕ)
    → n ++ (58 ∷ (r ++ (print_end e ++ (a ++ z))))
    ≡ (print_field (record { name = n; raw = r; end = e }) ++ a) ++ z
line_is n r e a z = simp (append_assoc, cons-append)

-- the first byte of a name
name_leads : (left b : ℕ) (text : List ℕ) → 0 < left → is_token_byte b ≡ true
    → NameEnds (left - 1) text → LinesEnd left (b ∷ text)
name_leads left b text some is (name, token, (r1, e1, (r2, e2, (raw, value, (r3, e3, end))))) =
    let lines = end.1.2 in
    let field : Field = record { name = b ∷ name; raw = raw; end = end.0 } in
    let valid : IsField field = record {
      name = (omega arith, all_more is_token_byte b name is token);
      raw = value;
    } in
    let rest = print_end end.0 ++ print_section lines.0 lines.1 in
    let behind : r3 ≡ rest = end.1.1 ∙ ap (λ t. print_end end.0 ++ t) lines.4 in
    let text_is : b ∷ text ≡ (b ∷ name) ++ (58 ∷ (raw ++ rest)) = ap (λ t. b ∷ t)
    (e1 ∙ ap (λ t. name ++ t) (e2 ∙ ap (λ t. 58 ∷ t) (e3 ∙ ap (λ t. raw ++ t) behind))) in
    let line = line_is (b ∷ name) raw end.0 (flat_map print_field lines.0)
    (print_end lines.1) in
    let few : length lines.0 ≤ left - 1 = lines.3 in
    let all = All-cons IsField field lines.0 valid lines.2 in
    (field ∷ lines.0, lines.1, all, omega arith, text_is ∙ line)

-- the first byte of a line
line_leads : (left b : ℕ) (text : List ℕ) → Ends (step (Line left) b) text
    → LinesEnd left (b ∷ text)
line_leads left b text =
    by_test (left == 0) Lost (if is_token_byte b then Name (left - 1) else Lost)
    (λ q. Ends q text → LinesEnd left (b ∷ text))
    (λ none ends. absurd ends)
    (λ some. by_test (is_token_byte b) (Name (left - 1)) Lost
    (λ q. Ends q text → LinesEnd left (b ∷ text))
    (λ is ends. name_leads left b text (positive left some) is ends)
    (λ is ends. absurd ends))

-- a byte of a value
value_leads : (left b : ℕ) (text : List ℕ) → Ends (step (Value left) b) text
    → ValueEnds left (b ∷ text)
value_leads left b text =
    by_test (is_value_byte b) (Value left) (end_step left b)
    (λ q. Ends q text → ValueEnds left (b ∷ text))
    (λ is ends. word_more is_value_byte (EndOfLine (LinesEnd left)) b text is ends)
    (λ is ends. word_done is_value_byte (EndOfLine (LinesEnd left)) (b ∷ text)
    (end_leads left b text ends))

-- the first byte of a target
target_leads : (b : ℕ) (text : List ℕ) → Ends (step TargetStart b) text
    → FullWord is_ascii_graphic BehindTarget (b ∷ text)
target_leads b text =
    by_test (is_ascii_graphic b) Target Lost
    (λ q. Ends q text → FullWord is_ascii_graphic BehindTarget (b ∷ text))
    (λ is ends. word_first is_ascii_graphic BehindTarget b text is ends)
    (λ is ends. absurd ends)

-- what ends a head behind a byte ends it with the byte before
step_leads : (phase : HeadPhase) (b : ℕ) (text : List ℕ) → Ends (step phase b) text
    → Ends phase (b ∷ text)
step_leads (Blank opening) b text ends = blank_leads opening b text ends
step_leads (BlankFeed opening) b text ends = wanted_leads 10 (Blank opening) b text ends
step_leads Method b text ends =
    word_leads is_token_byte BehindMethod Method TargetStart 32 b text (λ e. e) (λ w. w) ends
step_leads TargetStart b text ends = target_leads b text ends
step_leads Target b text ends =
    word_leads is_ascii_graphic BehindTarget Target (Version Request H) 32 b text (λ e. e) (λ w. w)
    ends
step_leads (Version opening letter) b text ends =
    letter_leads opening letter b text
    (wanted_leads (letter_byte letter) (behind_letter opening letter) b text ends)
step_leads (Minor opening) b text ends = minor_leads opening b text ends
step_leads VersionEnd b text ends = end_leads open_lines b text ends
step_leads StatusBlank b text ends = wanted_leads 32 (Digits 3) b text ends
step_leads (Digits left) b text ends = digit_leads left b text ends
step_leads (LineFeed left) b text ends = wanted_leads 10 (Line left) b text ends
step_leads (Line left) b text ends = line_leads left b text ends
step_leads (Name left) b text ends =
    word_leads is_token_byte (Then (58 ∷ []) (ValueEnds left)) (Name left) (Value left) 58 b text
    (λ e. e) (λ w. w) ends
step_leads (Value left) b text ends = value_leads left b text ends
step_leads Lost b text ends = absurd ends

-- the same of bytes
steps_lead : (phase : HeadPhase) (bytes text : List ℕ) → Ends (steps phase bytes) text
    → Ends phase (bytes ++ text)
steps_lead phase [] text ends = ends
steps_lead phase (b ∷ bytes) text ends =
    step_leads phase b (bytes ++ text) (steps_lead (step phase b) bytes text ends)

-- the phase that the steps come to
pub led : (phase there : HeadPhase) (bytes : List ℕ) → there ≡ steps phase bytes
    → Leads phase bytes there
led phase there bytes is =
    subst (λ q. Leads phase bytes q) (sym is) (record { ends = steps_lead phase bytes })

-- ---- a head can end from each open phase

-- bytes in which two lines end go on so
abbrev IsEnded : (List ℕ → Type 0) → Type 0
IsEnded next = (text : List ℕ) × next text × (2 ≤ ends_in text)

open_then : (front : List ℕ) (next : List ℕ → Type 0) → IsEnded next → IsEnded (Then front next)
open_then front next (text, ends, two) =
    (front ++ text, (text, refl, ends), omega (arith, two, ends_in-append front text))

open_word : (test : ℕ → Bool) (next : List ℕ → Type 0) → IsEnded next → IsEnded (Word test next)
open_word test next (text, ends, two) = (text, word_done test next text ends, two)

open_full : (test : ℕ → Bool) (next : List ℕ → Type 0) (b : ℕ) → test b ≡ true → IsEnded next
    → IsEnded (FullWord test next)
open_full test next b passes ended =
    let w = open_then (b ∷ []) (Word test next) (open_word test next ended) in
    (w.0, (b, passes, w.1), w.2)

-- the empty line
empty_line : (left : ℕ) → LinesEnd left (10 ∷ [])
empty_line left = ([], lf, All-nil IsField, omega arith, refl)

open_end : (left : ℕ) → IsEnded (EndOfLine (LinesEnd left))
open_end left = (10 ∷ 10 ∷ [], (lf, (10 ∷ [], refl, empty_line left)), omega arith)

open_value : (left : ℕ) → IsEnded (ValueEnds left)
open_value left = open_word is_value_byte (EndOfLine (LinesEnd left)) (open_end left)

open_name : (left : ℕ) → IsEnded (NameEnds left)
open_name left =
    open_word is_token_byte (Then (58 ∷ []) (ValueEnds left))
    (open_then (58 ∷ []) (ValueEnds left) (open_value left))

token_a : is_token_byte 97 ≡ true
unfolding is_token_byte
token_a = refl

-- one more line
open_line : (left : ℕ) → 0 < left → IsEnded (LinesEnd left)
open_line left some =
    let name = open_name (left - 1) in
    let two = name.2 in
    let line = name_leads left 97 name.0 some token_a name.1 in
    (97 ∷ name.0, line, omega (arith, two, ends_in-append (97 ∷ []) name.0))

open_feed : (left : ℕ) → IsEnded (Then (10 ∷ []) (LinesEnd left))
open_feed left = (10 ∷ 10 ∷ [], (10 ∷ [], refl, empty_line left), omega arith)

zeros : (count : ℕ) → (digits : List ℕ) × (length digits ≡ count) × AllPass is_ascii_digit digits
zeros zero = ([], refl, none_pass is_ascii_digit)
zeros (suc n) =
    let w = zeros n in
    let count = w.1 in
    (48 ∷ w.0, omega arith, all_more is_ascii_digit 48 w.0 refl w.2)

open_code : IsEnded CodeEnds
open_code = let w = open_end open_lines in (w.0, inl w.1, w.2)

open_digits : (left : ℕ) → IsEnded (DigitsEnd left)
open_digits left =
    let w = zeros left in
    let code = open_then w.0 CodeEnds open_code in
    (code.0, (w.0, w.1, w.2, code.1), code.2)

open_behind_version : (opening : Opening) → IsEnded (BehindVersion opening)
open_behind_version Request = open_end open_lines
open_behind_version Response = open_then (32 ∷ []) (DigitsEnd 3) (open_digits 3)

open_minor : (opening : Opening) → IsEnded (MinorEnds opening)
open_minor opening =
    let w = open_then (48 ∷ []) (BehindVersion opening) (open_behind_version opening) in
    (w.0, (0, omega arith, w.1), w.2)

open_version : (opening : Opening) (letter : Letter) → IsEnded (VersionEnds opening letter)
open_version opening letter =
    open_then (letters_from letter) (MinorEnds opening) (open_minor opening)

open_behind_target : IsEnded BehindTarget
open_behind_target = open_then (32 ∷ []) (VersionEnds Request H) (open_version Request H)

open_target : IsEnded (FullWord is_ascii_graphic BehindTarget)
open_target = open_full is_ascii_graphic BehindTarget 47 refl open_behind_target

open_behind_method : IsEnded BehindMethod
open_behind_method = open_then (32 ∷ []) (FullWord is_ascii_graphic BehindTarget) open_target

open_first : (opening : Opening) → IsEnded (FirstLine opening)
open_first Request = open_full is_token_byte BehindMethod 97 token_a open_behind_method
open_first Response = open_version Response H

open_head : (opening : Opening) → IsEnded (HeadEnds opening)
open_head opening = let w = open_first opening in (w.0, ([], (w.0, refl, w.1)), w.2)

-- each open phase
opened : (phase : HeadPhase) → is_open phase ≡ true → IsEnded (Ends phase)
opened (Blank opening) open_there = open_head opening
opened (BlankFeed opening) open_there = open_then (10 ∷ []) (HeadEnds opening) (open_head opening)
opened Method open_there = open_word is_token_byte BehindMethod open_behind_method
opened TargetStart open_there = open_target
opened Target open_there = open_word is_ascii_graphic BehindTarget open_behind_target
opened (Version opening letter) open_there = open_version opening letter
opened (Minor opening) open_there = open_minor opening
opened VersionEnd open_there = open_end open_lines
opened StatusBlank open_there = open_then (32 ∷ []) (DigitsEnd 3) (open_digits 3)
opened (Digits left) open_there = open_digits left
opened (LineFeed left) open_there = open_feed left
opened (Line left) open_there = open_line left (ltb-true 0 left open_there)
opened (Name left) open_there = open_name left
opened (Value left) open_there = open_value left
opened Lost open_there = absurd (no_test (sym open_there))

-- the same of the answer
pub open_phase : (phase : HeadPhase) (answer : Bool) → answer ≡ is_open phase → answer ≡ true
    → IsOpen phase
open_phase phase answer is said =
    let w = opened phase (sym is ∙ said) in
    record { text = w.0; ends = w.1; two = w.2 }
