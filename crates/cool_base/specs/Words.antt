-- File ids and tokens.
use Rattle.std.specs.Prelude.{ℕ, Bool, ◌&&◌, ◌||◌, ◌==◌, nat_le, List, length, Option, Some, None, if◌then◌else◌}
use Rattle.std.specs.List.{list_all}

-- whether the byte is one of A to Z, a to z, 0 to 9, `_` and `-`
abbrev pub is_file_character : ℕ → Bool
is_file_character c =
    (nat_le 65 c && nat_le c 90) || (nat_le 97 c && nat_le c 122) || (nat_le 48 c && nat_le c 57) || c == 95 || c == 45

-- whether the text is a file id: 1 to 64 of these bytes
abbrev pub is_file_id : List ℕ → Bool
is_file_id text = nat_le 1 (length text) && nat_le (length text) 64 && list_all is_file_character text

-- the file id that the text is
abbrev pub file_id : List ℕ → Option (List ℕ)
file_id text = if is_file_id text then Some text else None

-- whether the byte is from 33 to 126
abbrev pub is_token_byte : ℕ → Bool
is_token_byte c = nat_le 33 c && nat_le c 126

-- whether the text is a token: 1 to 2,048 of these bytes
abbrev pub is_token : List ℕ → Bool
is_token text = nat_le 1 (length text) && nat_le (length text) 2048 && list_all is_token_byte text

-- the token that the text is
abbrev pub token : List ℕ → Option (List ℕ)
token text = if is_token text then Some text else None
