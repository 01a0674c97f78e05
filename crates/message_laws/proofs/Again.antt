-- What is written of a message that some text says is read again as that message.
use Rattle.std.proofs.Common.{◌≡◌, ℕ, ◌+◌, ◌≤◌, Bool, true, false, not, ltb, cond, List, [], ◌∷◌, ◌++◌, length, Option, Some, None, Ok, Err, arith, refl, ap, ◌∙◌, subst, length-append}
use Rattle.std.proofs.lemmas.Str.{IsUtf8-append, IsUtf8-from_is_utf8}
use Rattle.std.specs.List.{list_all, AllByRecursion}
use Rattle.std.specs.Str.{is_utf8, bytes_eq}
use Rattle.std.specs.Prelude.{codes}
use Rattle.cool_words.specs.Words.{is_blank, words}
use Rattle.cool_message.specs.declared.fault.MessageFault.{MessageFault}
use Rattle.cool_message.specs.declared.fault.MessageFault.TheVariants.{Empty, TooLong, NotUtf8, BadWord}
use Rattle.cool_message.specs.declared.fault.Word.TheVariants as word
use Rattle.cool_message.specs.declared.message.ClientMessage.{ClientMessage}
use Rattle.cool_message.specs.declared.message.ClientMessage.TheVariants as message
use Rattle.cool_message.specs.declared.table.Command.{Command}
use Rattle.cool_message.specs.Names.{command_text, command_named}
use Rattle.cool_message.specs.Table.{fields_of}
use Rattle.cool_message.specs.Reading.{reading, said, uno, with_command, tabled, fault_of, message_from, text_of}
use Rattle.cool_message.specs.Writing.{written, line, spelled}
use Rattle.cool_message.proofs.Readings.{reading_of_words}
use Rattle.message_laws.proofs.Texts.{words_end, words_step, utf8_from_low}
use Rattle.message_laws.proofs.Parts.{IsSound, sound_words}
use Rattle.message_laws.proofs.Lines.{values_of, words_spelled, clean_values, utf8_spelled, short_spelled, IsFirst, firsts, room, AreGood}
use Rattle.message_laws.proofs.Lookups.{written_words, Fit, fit_from_none, no_fault, all_good, written_from, same_message}

said_again : (first : Command) (list : List (List ℕ)) → Fit list (fields_of first) → said (command_text first ∷ written_words first list) ≡ Ok (message_from first (text_of list))
said_again first list all =
    rw ((firsts first).other, (firsts first).named, no_fault first list all, same_message first list all) refl

line_said : (first : Command) (list : List (List ℕ)) → AreGood (text_of list) (fields_of first) → reading (line first (values_of (text_of list) (fields_of first))) ≡ said (command_text first ∷ written_words first list)
line_said first list good =
    let start : IsFirst first = firsts first in
    let behind : List ℕ = spelled (fields_of first) (values_of (text_of list) (fields_of first)) in
    let short : length (command_text first) ≤ 17 = start.short in
    let rest : length behind ≤ room (fields_of first) = short_spelled (text_of list) (fields_of first) good in
    let most : room (fields_of first) ≤ 60000 = start.fits in
    let sum : length (command_text first ++ behind) ≡ length (command_text first) + length behind = length-append (command_text first) behind in
    reading_of_words (command_text first ++ behind) (start.begins behind) (omega arith)
    (IsUtf8-append (command_text first) behind (utf8_from_low (command_text first) start.low) (utf8_spelled (text_of list) (fields_of first) good))
    ∙ ap said (words_spelled (command_text first) (fields_of first) (values_of (text_of list) (fields_of first)) start.clean start.long (clean_values (text_of list) (fields_of first) good))

pub tabled_again : (first : Command) (list : List (List ℕ)) → AllByRecursion IsSound list → fault_of (fields_of first) list ≡ None → reading (written (message_from first (text_of list))) ≡ Ok (message_from first (text_of list))
tabled_again first list sound none =
    let all : Fit list (fields_of first) = fit_from_none (fields_of first) list none in
    ap reading (written_from first (text_of list)) ∙ line_said first list (all_good first list sound all) ∙ said_again first list all

pub uno_again : reading (written message.UnoSave) ≡ Ok message.UnoSave
uno_again =
    reading_of_words (codes "uno .uno:Save") refl (omega arith) (utf8_from_low (codes "uno .uno:Save") refl)
    ∙ ap said (words_step (codes "uno") (codes ".uno:Save") refl (omega arith) ∙ ap (λ ws. codes "uno" ∷ ws) (words_end (codes ".uno:Save") refl (omega arith)))

-- what holds of the message of each command of the table, and of `uno`, holds of what a text says
abbrev pub HoldsTabled : (ClientMessage → Type 0) → Type 0
HoldsTabled P = (first : Command) (list : List (List ℕ)) → AllByRecursion IsSound list → fault_of (fields_of first) list ≡ None → P (message_from first (text_of list))

from_fault : (P : ClientMessage → Type 0) → HoldsTabled P → (first : Command) (list : List (List ℕ)) (m : ClientMessage) (r : Option MessageFault) → AllByRecursion IsSound list → fault_of (fields_of first) list ≡ r → tabled first list r ≡ Ok m → P m
from_fault P holds first list m (Some fault) sound q e = absurd (cc)
from_fault P holds first list m None sound q e =
    let same : message_from first (text_of list) ≡ m = cc in
    subst P same (holds first list sound q)

from_command : (P : ClientMessage → Type 0) → HoldsTabled P → (list : List (List ℕ)) (m : ClientMessage) (r : Option Command) → AllByRecursion IsSound list → with_command r list ≡ Ok m → P m
from_command P holds list m None sound e = absurd (cc)
from_command P holds list m (Some first) sound e = from_fault P holds first list m (fault_of (fields_of first) list) sound refl e

from_uno : (P : ClientMessage → Type 0) → P message.UnoSave → (list : List (List ℕ)) (m : ClientMessage) → uno list ≡ Ok m → P m
from_uno P saved [] m e = absurd (cc)
from_uno P saved (second ∷ others) m e =
    elim (bytes_eq second (codes ".uno:Save")) as (λ b. cond b (Ok message.UnoSave) (Err (BadWord word.Command)) ≡ Ok m → P m) [
      | true ↦ λ h. let same : message.UnoSave ≡ m = cc in subst P same saved
      | false ↦ λ h. absurd (cc)
    ] e

from_words : (P : ClientMessage → Type 0) → HoldsTabled P → P message.UnoSave → (list : List (List ℕ)) (m : ClientMessage) → AllByRecursion IsSound list → said list ≡ Ok m → P m
from_words P holds saved [] m sound e = absurd (cc)
from_words P holds saved (first ∷ others) m sound e =
    elim (bytes_eq first (codes "uno")) as (λ b. cond b (uno others) (with_command (command_named first) others) ≡ Ok m → P m) [
      | true ↦ λ h. from_uno P saved others m h
      | false ↦ λ h. from_command P holds others m (command_named first) sound.1 h
    ] e

from_utf8 : (P : ClientMessage → Type 0) → HoldsTabled P → P message.UnoSave → (text : List ℕ) (m : ClientMessage) (b : Bool) → is_utf8 text ≡ b → cond (not b) (Err NotUtf8) (said (words text)) ≡ Ok m → P m
from_utf8 P holds saved text m true q e = from_words P holds saved (words text) m (sound_words text (IsUtf8-from_is_utf8 text q)) e
from_utf8 P holds saved text m false q e = absurd (cc)

from_length : (P : ClientMessage → Type 0) → HoldsTabled P → P message.UnoSave → (text : List ℕ) (m : ClientMessage) (b : Bool) → cond b (Err TooLong) (cond (not (is_utf8 text)) (Err NotUtf8) (said (words text))) ≡ Ok m → P m
from_length P holds saved text m true e = absurd (cc)
from_length P holds saved text m false e = from_utf8 P holds saved text m (is_utf8 text) refl e

from_blanks : (P : ClientMessage → Type 0) → HoldsTabled P → P message.UnoSave → (text : List ℕ) (m : ClientMessage) (b : Bool) → cond b (Err Empty) (cond (ltb 65536 (length text)) (Err TooLong) (cond (not (is_utf8 text)) (Err NotUtf8) (said (words text)))) ≡ Ok m → P m
from_blanks P holds saved text m true e = absurd (cc)
from_blanks P holds saved text m false e = from_length P holds saved text m (ltb 65536 (length text)) e

tests_first : (text : List ℕ) (m : ClientMessage) → reading text ≡ Ok m → cond (list_all is_blank text) (Err Empty) (cond (ltb 65536 (length text)) (Err TooLong) (cond (not (is_utf8 text)) (Err NotUtf8) (said (words text)))) ≡ Ok m
unfolding reading
tests_first text m h = h

pub holds_of_said : (P : ClientMessage → Type 0) → HoldsTabled P → P message.UnoSave → (m : ClientMessage) (text : List ℕ) → reading text ≡ Ok m → P m
holds_of_said P holds saved m text h = from_blanks P holds saved text m (list_all is_blank text) (tests_first text m h)

abbrev pub IsReadAgain : ClientMessage → Type 0
IsReadAgain m = reading (written m) ≡ Ok m

pub read_again : (m : ClientMessage) (text : List ℕ) → reading text ≡ Ok m → reading (written m) ≡ Ok m
read_again m text h = holds_of_said IsReadAgain tabled_again uno_again m text h
