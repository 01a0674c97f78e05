-- The grammar of script lines: what a line says, and where a script may say it.
use Rattle.std.specs.Prelude.{ℕ, ◌==◌, ◌&&◌, ◌||◌, Bool, true, false, not, List, [], ◌∷◌, length, codes, is_some, Option, None, Some, if◌then◌else◌}
use Rattle.std.specs.BTreeMap.{is_at}
use Rattle.std.specs.BTreeSet.{insert_key}
use Rattle.std.specs.List.{list_any}
use Rattle.std.specs.Ordering.{nat_cmp}
use Rattle.std.specs.Str.{bytes_eq, is_utf8, chars}
use Rattle.cool_base.specs.Numbers.{number}
use Rattle.cool_base.specs.Words.{is_file_id}
use Rattle.cool_words.specs.Words.{cut_at}
use Rattle.script_lines.specs.Positions.{Position}
use Rattle.script_lines.specs.declared.saying.ScriptLine.{ScriptLine}
use Rattle.script_lines.specs.declared.saying.ScriptLine.TheVariants.{Open, Say, Keys, Leave, Turn, Settle, Blank, End}

-- the word before the first blank, and all that stands behind that blank
abbrev pub split_word : List ℕ → Option (List ℕ × List ℕ)
split_word text = cut_at 32 text

-- a number that isn't 0
abbrev pub not_zero : Option ℕ → Option ℕ
not_zero None = None
not_zero (Some n) = if n == 0 then None else Some n

-- decimal digits, any count that a line holds, with a value of 1 to the limit
abbrev pub counted : ℕ → List ℕ → Option ℕ
counted limit word = not_zero (number 70000 limit word)

-- a link: 1 to 65,535
abbrev pub link_of : List ℕ → Option ℕ
link_of word = counted 65535 word

-- a link, one blank, and all that stands behind it
abbrev pub with_rest : Option ℕ → List ℕ → Option (ℕ × List ℕ)
with_rest None rest = None
with_rest (Some link) rest = Some (link, rest)

abbrev pub linked_by : Option (List ℕ × List ℕ) → Option (ℕ × List ℕ)
linked_by None = None
linked_by (Some split) = with_rest (link_of split.0) split.1

abbrev pub linked : List ℕ → Option (ℕ × List ℕ)
linked text = linked_by (split_word text)

-- `rw` lets the link write, `ro` doesn't
abbrev pub rights_of : List ℕ → Option Bool
rights_of word = if bytes_eq word (codes "rw") then Some true else (if bytes_eq word (codes "ro") then Some false else None)

-- `<file> <rights>`
abbrev pub opened_with : ℕ → List ℕ → Option Bool → Option ScriptLine
opened_with link file None = None
opened_with link file (Some writes) = if is_file_id file then Some (Open link file writes) else None

abbrev pub file_part : ℕ → Option (List ℕ × List ℕ) → Option ScriptLine
file_part link None = None
file_part link (Some split) = opened_with link split.0 (rights_of split.1)

-- what stands behind `open`: the link, the file and the rights
abbrev pub open_part : Option (ℕ × List ℕ) → Option ScriptLine
open_part None = None
open_part (Some part) = file_part part.0 (split_word part.1)

-- what stands behind `say`: the link and the message, which may be empty
abbrev pub say_part : Option (ℕ × List ℕ) → Option ScriptLine
say_part None = None
say_part (Some part) = Some (Say part.0 part.1)

-- what stands behind `type`: the link and the characters that are typed, as UTF-8
abbrev pub keys_part : Option (ℕ × List ℕ) → Option ScriptLine
keys_part None = None
keys_part (Some part) = if is_utf8 part.1 then Some (Keys part.0 (chars part.1)) else None

-- what stands behind `drop`: the link
abbrev pub leave_part : Option ℕ → Option ScriptLine
leave_part None = None
leave_part (Some link) = Some (Leave link)

-- what stands behind `turn`: the one poll, 0, and how many turns, 1 to 100,000
abbrev pub turns_of : Option ℕ → Option ScriptLine
turns_of None = None
turns_of (Some count) = Some (Turn count)

abbrev pub turn_part : Option (List ℕ × List ℕ) → Option ScriptLine
turn_part None = None
turn_part (Some split) = if is_some (number 70000 0 split.0) then turns_of (counted 100000 split.1) else None

-- a line of more words, by its first word and all that stands behind it
abbrev pub worded_by : List ℕ → List ℕ → Option ScriptLine
worded_by word rest =
    if bytes_eq word (codes "say") then say_part (linked rest)
    else
    (if bytes_eq word (codes "open") then open_part (linked rest)
    else
    (if bytes_eq word (codes "type") then keys_part (linked rest)
    else
    (if bytes_eq word (codes "drop") then leave_part (link_of rest)
    else (if bytes_eq word (codes "turn") then turn_part (split_word rest) else None))))

abbrev pub worded : Option (List ℕ × List ℕ) → Option ScriptLine
worded None = None
worded (Some split) = worded_by split.0 split.1

-- whether the line is a comment
abbrev pub is_comment : List ℕ → Bool
is_comment [] = false
is_comment (c ∷ cs) = c == 35

-- what a line says, if anything: a line without a byte and a comment say that nothing is to do
unfoldable pub line_of : List ℕ → Option ScriptLine
line_of text =
    if length text == 0 || is_comment text then Some Blank
    else
    (if bytes_eq text (codes "end") then Some End
    else (if bytes_eq text (codes "settle") then Some Settle else worded (split_word text)))

-- whether a line says a message or characters, which are copied; no other line takes memory to be read
abbrev pub is_copied : Option ScriptLine → Bool
is_copied None = false
is_copied (Some Blank) = false
is_copied (Some End) = false
is_copied (Some Settle) = false
is_copied (Some (Turn count)) = false
is_copied (Some (Say link message)) = true
is_copied (Some (Keys link typed)) = true
is_copied (Some (Leave link)) = false
is_copied (Some (Open link file writes)) = false

-- whether the link is among these
abbrev pub has_link : List ℕ → ℕ → Bool
has_link links link = list_any (is_at (nat_cmp link)) links

-- these links and one more, in order
abbrev pub with_link : List ℕ → ℕ → List ℕ
with_link links link = insert_key nat_cmp links link

-- a link is live from the line that opens it up to the line that drops it
abbrev pub is_live : Position → ℕ → Bool
is_live position link = has_link position.used link && not (has_link position.dropped link)

-- whether the file is the script's one, or its first
abbrev pub is_one_file : Option (List ℕ) → List ℕ → Bool
is_one_file None file = true
is_one_file (Some first) file = bytes_eq first file

-- whether a link may be opened on the file: it was never used before, and the script has no other file
abbrev pub may_open : Position → ℕ → List ℕ → Bool
may_open position link file = not (has_link position.used link) && is_one_file position.file file

-- what a line of a script does: it acts and the script then stands there, it ends the script, or no script
-- has it there
pub data Role : Type 0 where
  Acts : (line : ScriptLine) (next : Position) → Role
  Ends : Role
  Refused : Role

-- a line of a live link
abbrev pub if_live : Position → ℕ → ScriptLine → Position → Role
if_live position link line next = if is_live position link then Acts line next else Refused

-- what a script's line does behind the lines before it
abbrev pub role_of : Position → Option ScriptLine → Role
role_of position None = Refused
role_of position (Some Blank) = Acts Blank position
role_of position (Some End) = Ends
role_of position (Some Settle) = Acts Settle position
role_of position (Some (Turn count)) = Acts (Turn count) position
role_of position (Some (Say link message)) = if_live position link (Say link message) position
role_of position (Some (Keys link typed)) = if_live position link (Keys link typed) position
role_of position (Some (Leave link)) = if_live position link (Leave link) (record position { dropped = with_link position.dropped link })
role_of position (Some (Open link file writes)) =
    if may_open position link file then Acts (Open link file writes) (record position { file = Some file; used = with_link position.used link })
    else Refused

-- whether a line takes memory where it stands: what it says is copied, or its link becomes one of those
-- that were dropped or used. No other line does, so one that ends the script, one out of form, a drop of a
-- link that isn't live and an open that no script has there are judged without memory
abbrev pub takes_memory : Position → Option ScriptLine → Bool
takes_memory position None = false
takes_memory position (Some Blank) = false
takes_memory position (Some End) = false
takes_memory position (Some Settle) = false
takes_memory position (Some (Turn count)) = false
takes_memory position (Some (Say link message)) = true
takes_memory position (Some (Keys link typed)) = true
takes_memory position (Some (Leave link)) = is_live position link
takes_memory position (Some (Open link file writes)) = may_open position link file

abbrev pub role : Position → List ℕ → Role
role position text = role_of position (line_of text)

-- a script before its first line
abbrev pub start : Position
start = record { file = None; used = []; dropped = [] }

-- what comes behind a line that acts, and None where it ends the script or is refused
abbrev pub followed : Role → (Position → Option Position) → Option Position
followed (Acts line position) later = later position
followed Ends later = None
followed Refused later = None

-- where a script stands behind these lines, if each of them acts
abbrev pub position_after : Position → List (List ℕ) → Option Position
position_after position [] = Some position
position_after position (line ∷ lines) = followed (role position line) (λ next. position_after next lines)
