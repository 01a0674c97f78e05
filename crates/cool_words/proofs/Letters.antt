-- Letters a to z are UTF-8.
use Rattle.std.proofs.Common.{◌≡◌, ℕ, ◌<◌, true, ◌&&◌, List, [], ◌∷◌, length, nat_le, arith}
use Rattle.std.proofs.lemmas.Bool.{and_parts}
use Rattle.std.proofs.lemmas.Bool.Decides.{nat_tests}
use Rattle.std.proofs.lemmas.Str.{IsUtf8-from_ascii}
use Rattle.std.proofs.lemmas.Str.Ascii.{IsAscii-nil, IsAscii-cons}
use Rattle.std.specs.List.{list_all}
use Rattle.std.specs.Str.{IsUtf8, IsAscii}
use Rattle.cool_words.specs.Words.{is_letter, is_command}
use Rattle.cool_words.specs.declared.commands.TheConstants.{COMMAND_LIMIT}

letter_is_low : (b : ℕ) → is_letter b ≡ true → b < 128
letter_is_low b h = grind (arith, nat_tests)

letters_are_ascii : (word : List ℕ) → list_all is_letter word ≡ true → IsAscii word
letters_are_ascii [] h = IsAscii-nil
letters_are_ascii (b ∷ bs) h =
    let parts = and_parts (is_letter b) (list_all is_letter bs) h in
    IsAscii-cons b bs (letter_is_low b parts.0) (letters_are_ascii bs parts.1)

-- a command is letters alone
pub command_letters : (word : List ℕ) → is_command word ≡ true → list_all is_letter word ≡ true
command_letters word h = (and_parts (nat_le 1 (length word) && nat_le (length word) COMMAND_LIMIT) (list_all is_letter word) h).1

-- and UTF-8
pub command_is_utf8 : (word : List ℕ) → is_command word ≡ true → IsUtf8 word
command_is_utf8 word h = IsUtf8-from_ascii word (letters_are_ascii word (command_letters word h))
