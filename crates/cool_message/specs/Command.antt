-- The command that an error frame names.
use Rattle.std.specs.Prelude.{ℕ, List, Bool, ◌&&◌, not, nat_le, length, drop, codes, if◌then◌else◌}
use Rattle.std.specs.List.{before_first, position_or_len}
use Rattle.std.specs.Str.{is_utf8}
use Rattle.cool_words.specs.Words.{is_blank, is_command}
use Rattle.cool_message.specs.declared.limits.TheConstants.{MESSAGE_LIMIT}

-- the bytes from the first that is no blank up to the next blank
unfoldable pub first_word : List ℕ → List ℕ
first_word text = before_first is_blank (drop (position_or_len (λ byte. not (is_blank byte)) text) text)

-- a text of at most 65,536 (`MESSAGE_LIMIT`) bytes that is UTF-8
unfoldable pub is_readable : List ℕ → Bool
is_readable text = nat_le (length text) MESSAGE_LIMIT && is_utf8 text

-- what an error frame names where a text is refused: its first word, if the text is readable and the
-- word may be a command, and else the word unknown
unfoldable pub command_name : List ℕ → List ℕ
command_name text =
    if is_readable text && is_command (first_word text) then first_word text else codes "unknown"
