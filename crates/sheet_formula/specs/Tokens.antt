-- A formula's text as words and signs.
use Rattle.std.specs.Prelude.{ℕ, zero, suc, pos, ◌+◌, ◌==◌, Bool, ◌||◌, List, [], ◌∷◌, ◌++◌, length, take, drop, map, codes, slice_index, Option, Some, None, option_map, option_and_then, if◌then◌else◌}
use Rattle.std.specs.List.{prefix_len}
use Rattle.std.specs.Char.{is_ascii_digit, to_ascii_lowercase}
use Rattle.std.specs.Str.{bytes_eq}
use Rattle.cool_base.specs.Numbers.{number}
use Rattle.sheet_cells.specs.References.{is_name_letter, cell_of}
use Rattle.formula_base.specs.declared.expressions.Operator.TheVariants as sign
use Rattle.formula_base.specs.declared.expressions.Comparison.TheVariants as comparison
use Rattle.formula_base.specs.declared.expressions.Function.TheVariants as function
use Rattle.sheet_formula.specs.declared.tokens.Token.{Token}
use Rattle.sheet_formula.specs.declared.tokens.Token.TheVariants.{Number, Words, Cell, Function, If, Sign, Compare, Open, Close, Comma, Colon}

-- a text, by its bytes; every sign is one of ASCII, and no byte of another character is
abbrev pub Text : Type 0
Text = List ℕ

-- a word or a sign at the front of a text, with the text behind it
abbrev pub Front : Type 0
Front = Option (Token × Text)

-- the signs that compare, and how many characters they have; `<=` and `<>` come before `<`, and `>=` before `>`
abbrev pub compared_of : ℕ → ℕ → Token × ℕ
compared_of c d =
    if c == 61 then (Compare comparison.Equal, 1)
    else if c == 60 then (if d == 61 then (Compare comparison.AtMost, 2) else if d == 62 then (Compare comparison.NotEqual, 2) else (Compare comparison.Less, 1))
    else if d == 61 then (Compare comparison.AtLeast, 2)
    else (Compare comparison.Greater, 1)

-- the sign that begins with a character, by the one behind it, and how many characters it has
abbrev pub sign_of : ℕ → ℕ → Option (Token × ℕ)
sign_of c d =
    if c == 60 || c == 61 || c == 62 then Some (compared_of c d)
    else if c == 43 then Some (Sign sign.Add, 1)
    else if c == 45 then Some (Sign sign.Subtract, 1)
    else if c == 42 then Some (Sign sign.Multiply, 1)
    else if c == 47 then Some (Sign sign.Divide, 1)
    else if c == 40 then Some (Open, 1)
    else if c == 41 then Some (Close, 1)
    else if c == 44 then Some (Comma, 1)
    else if c == 58 then Some (Colon, 1)
    else None

-- whether letters are those of a name, in whichever case
abbrev pub is_named : Text → Text → Bool
is_named letters name = bytes_eq (map to_ascii_lowercase letters) (map to_ascii_lowercase name)

-- the function that letters name
abbrev pub function_of : Text → Option Token
function_of letters =
    if is_named letters (codes "SUM") then Some (Function function.Sum)
    else if is_named letters (codes "MIN") then Some (Function function.Min)
    else if is_named letters (codes "MAX") then Some (Function function.Max)
    else if is_named letters (codes "COUNT") then Some (Function function.Count)
    else if is_named letters (codes "IF") then Some If
    else None

-- letters alone name a function, and letters with digits behind them a cell
abbrev pub name_of : Text → Text → Option Token
name_of letters [] = function_of letters
name_of letters (d ∷ digits) = option_map (λ position. Cell position) (cell_of letters (d ∷ digits))

-- how many characters of a kind a text begins with, behind the first n
abbrev pub run_behind : (ℕ → Bool) → ℕ → Text → ℕ
run_behind is_kind n text = prefix_len is_kind (drop n text)

-- a name: as many letters as there are, and as many digits as there are behind them
abbrev pub name_at : Text → Front
name_at text =
    let n = prefix_len is_name_letter text in
    let m = run_behind is_ascii_digit n text in
    option_map (λ token. (token, drop (n + m) text)) (name_of (take n text) (take m (drop n text)))

-- a number: as many digits as there are, at most 19, that write at most 9223372036854775807
abbrev pub number_at : Text → Front
number_at text =
    let n = prefix_len is_ascii_digit text in
    option_map (λ value. (Number (pos value), drop n text)) (number 19 9223372036854775807 (take n text))

abbrev pub sign_at : Text → Front
sign_at text = option_map (λ found. (found.0, drop found.1 text)) (sign_of (slice_index text 0) (slice_index text 1))

-- more of a text in front
abbrev pub with_front : Text → Option (Text × Text) → Option (Text × Text)
with_front front found = option_map (λ found. (front ++ found.0, found.1)) found

-- what stands in quotes, behind the opening quote, and the text behind the closing one; a quote that is written twice is one of the text
abbrev pub quoted : Text → Option (Text × Text)
quoted [] = None
quoted (c ∷ []) = if c == 34 then Some ([], []) else None
quoted (c ∷ d ∷ text) =
    if c == 34 then (if d == 34 then with_front (34 ∷ []) (quoted text) else Some ([], d ∷ text))
    else with_front (c ∷ []) (quoted (d ∷ text))

abbrev pub words_at : Text → Front
words_at text = option_map (λ found. (Words found.0, found.1)) (quoted text)

-- a number, a name or a sign, by its first character
abbrev pub bare_at : ℕ → Text → Front
bare_at c text = if is_ascii_digit c then number_at text else if is_name_letter c then name_at text else sign_at text

-- the word or sign at the front of a text
unfoldable pub token_at : Text → Front
token_at [] = None
token_at (c ∷ text) = if c == 34 then words_at text else bare_at c (c ∷ text)

-- a token in front of others
abbrev pub with_token : Token → Option (List Token) → Option (List Token)
with_token token tokens = option_map (λ tokens. token ∷ tokens) tokens

-- the words and signs of a text with at most n characters, in order; blanks between them fall away
unfoldable pub tokenize : ℕ → Text → Option (List Token)
tokenize n [] = Some []
tokenize zero (c ∷ text) = None
tokenize (suc n) (c ∷ text) =
    if c == 32 then tokenize n text
    else option_and_then (λ found. with_token found.0 (tokenize n found.1)) (token_at (c ∷ text))

-- the words and signs of a text; None where something in it is neither
abbrev pub tokens_of : Text → Option (List Token)
tokens_of text = tokenize (length text) text
