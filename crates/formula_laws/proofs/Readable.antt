-- What is written is read.
use Rattle.std.proofs.Common.{◌≡◌, ◌≢◌, inl, inr, ℕ, ℤ, zero, suc, pos, ◌≤◌, ◌+◌, ◌-◌, Bool, true, false, List, [], ◌∷◌, ◌++◌, length, take, drop, map, refl, sym, ◌∙◌, ap, subst, append_assoc, append-nil, length-append, arith}
use Rattle.std.specs.Prelude.{Option, Some, None, option_map, nat_lt, nat_le, ◌==◌, ◌&&◌, cond, codes, slice_index}
use Rattle.std.specs.List.{list_all, prefix_len}
use Rattle.std.specs.Char.{is_ascii_digit, to_ascii_lowercase}
use Rattle.std.specs.Str.{bytes_eq}
use Rattle.std.proofs.Math.Seq.{drop-append_seam, take-append_seam}
use Rattle.std.proofs.lemmas.List.{take-append-drop, drop-drop}
use Rattle.std.proofs.lemmas.Bool.{eqb-true, ne_eqb, leb-true}
use Rattle.std.proofs.lemmas.Bool.Decides.{nat_tests}
use Rattle.std.proofs.lemmas.Slice.Eq.{bytes_eq-Decides}
use Rattle.cool_base.specs.Numbers.{number, is_decimal, decimal_value}
use Rattle.sheet_cells.specs.References.{is_name_letter, cell_of, column_number, column_of, row_of, reference}
use Rattle.formula_base.specs.declared.expressions.Operator.{Operator}
use Rattle.formula_base.specs.declared.expressions.Operator.TheVariants as sign
use Rattle.formula_base.specs.declared.expressions.Comparison.{Comparison}
use Rattle.formula_base.specs.declared.expressions.Comparison.TheVariants as comparison
use Rattle.formula_base.specs.declared.expressions.Function.{Function as Named}
use Rattle.formula_base.specs.declared.expressions.Function.TheVariants as function
use Rattle.formula_base.specs.declared.expressions.Expr.{Expr}
use Rattle.sheet_formula.specs.declared.tokens.Token.{Token}
use Rattle.sheet_formula.specs.declared.tokens.Token.TheVariants.{Number, Words, Cell, Function, If, Sign, Compare, Open, Close, Comma, Colon}
use Rattle.sheet_formula.specs.Tokens.{Text, is_named, function_of, name_of, name_at, number_at, quoted, with_front, words_at, token_at, tokenize, with_token, tokens_of}
use Rattle.sheet_formula.specs.Grammar.{formula_of}
use Rattle.formula_laws.proofs.Sound.{no_some, same_some}
use Rattle.formula_laws.proofs.Complete.{complete}
use Rattle.formula_laws.specs.Spelling.{operator_text, comparison_text, function_text, doubled, IsSpelled, AreBlanks, IsSpelledAs, IsFormulaText}
use Rattle.formula_laws.proofs.Apart.{Apart, AreApart, comparison_apart}
use Rattle.formula_laws.proofs.Written.{choose, map_read, and_read}
use Rattle.formula_laws.proofs.Characters.{run_length, no_true, both, both_true, no_letter, word_char, compare_char, is_word, is_compare, Begins, Ends, digit_begins, letter_begins, ends_digits, ends_letters, ends_quote}

-- what can't follow the closing quote
abbrev NoQuote : Text → Type 0
NoQuote rest = (c : ℕ) (behind : Text) → rest ≡ c ∷ behind → c ≢ 34

quote_closed : (rest : Text) → NoQuote rest → quoted (34 ∷ rest) ≡ Some ([], rest)
quote_closed [] other = refl
quote_closed (d ∷ rest) other = rw (ne_eqb d 34 (other d rest refl)) refl

quote_skipped : (c : ℕ) (front rest : Text) → (c == 34) ≡ false → quoted (c ∷ (front ++ 34 ∷ rest)) ≡ with_front (c ∷ []) (quoted (front ++ 34 ∷ rest))
quote_skipped c [] rest h = rw h refl
quote_skipped c (d ∷ front) rest h = rw h refl

plain_doubled : (c : ℕ) (words : Text) → (c == 34) ≡ false → doubled (c ∷ words) ≡ c ∷ doubled words
plain_doubled c words h = rw h refl

doubled_from : (c : ℕ) (words rest : Text) (b : Bool) → (c == 34) ≡ b → quoted (doubled words ++ 34 ∷ rest) ≡ Some (words, rest) → quoted (doubled (c ∷ words) ++ 34 ∷ rest) ≡ Some (c ∷ words, rest)
doubled_from c words rest true e read =
    ap (λ (x : ℕ). quoted (doubled (x ∷ words) ++ 34 ∷ rest)) (eqb-true c 34 e)
    ∙ ap (with_front (34 ∷ [])) read
    ∙ ap (λ (x : ℕ). Some (x ∷ words, rest)) (sym (eqb-true c 34 e))
doubled_from c words rest false e read =
    ap (λ (ts : Text). quoted (ts ++ 34 ∷ rest)) (plain_doubled c words e)
    ∙ quote_skipped c (doubled words) rest e
    ∙ ap (with_front (c ∷ [])) read

-- a quoted text and what follows its closing quote
doubled_read : (words rest : Text) → NoQuote rest → quoted (doubled words ++ 34 ∷ rest) ≡ Some (words, rest)
doubled_read [] rest other = quote_closed rest other
doubled_read (c ∷ words) rest other = doubled_from c words rest (c == 34) refl (doubled_read words rest other)

-- what a number of digits is made of
number_digits : (most limit : ℕ) (digits : Text) (value : ℕ) → number most limit digits ≡ Some value → (nat_lt 0 (length digits) ≡ true) × (list_all is_ascii_digit digits ≡ true)
number_digits most limit digits value h =
    elim (choose (is_decimal digits && (nat_le (length digits) most && nat_le (decimal_value digits) limit)) _ _ (Some value) h) [
      | inl a ↦ both (nat_lt 0 (length digits)) (list_all is_ascii_digit digits) (both (is_decimal digits) _ a.0).0
      | inr a ↦ absurd (no_some value a.1)
    ]

first_digit : (word : Text) → nat_lt 0 (length word) ≡ true → list_all is_ascii_digit word ≡ true → (c : ℕ) × (w : Text) × (word ≡ c ∷ w) × (is_ascii_digit c ≡ true)
first_digit [] some h = absurd (no_true some)
first_digit (c ∷ w) some h = (c, w, refl, (both (is_ascii_digit c) (list_all is_ascii_digit w) h).0)

row_number : (digits : Text) (row : ℕ) → row_of digits ≡ Some row → (nat_lt 0 (length digits) ≡ true) × (list_all is_ascii_digit digits ≡ true)
row_number digits row h =
    elim (choose (nat_le 49 (slice_index digits 0)) _ _ (Some row) h) [
      | inl a ↦ let p = map_read (λ (n : ℕ). n - 1) (number 4 4096 digits) row a.1 in number_digits 4 4096 digits p.0 p.1
      | inr a ↦ absurd (no_some row a.1)
    ]

column_letters : (letters : Text) (column : ℕ) → column_of letters ≡ Some column → (nat_le 1 (length letters) ≡ true) × (list_all is_name_letter letters ≡ true)
column_letters letters column h =
    elim (choose (nat_le 1 (length letters) && nat_le (length letters) 2 && list_all is_name_letter letters && nat_le (column_number letters) 256) _ _ (Some column) h) [
      | inl a ↦
          let p = both (nat_le 1 (length letters) && nat_le (length letters) 2 && list_all is_name_letter letters) (nat_le (column_number letters) 256) a.0 in
          let q = both (nat_le 1 (length letters) && nat_le (length letters) 2) (list_all is_name_letter letters) p.0 in
          ((both (nat_le 1 (length letters)) (nat_le (length letters) 2) q.0).0, q.1)
      | inr a ↦ absurd (no_some column a.1)
    ]

-- the letters and the digits of a cell's name
record CellParts (letters digits : Text) (position : ℕ × ℕ) : Type 0 where
  some : nat_le 1 (length letters) ≡ true
  letter : list_all is_name_letter letters ≡ true
  more : nat_lt 0 (length digits) ≡ true
  digit : list_all is_ascii_digit digits ≡ true

cell_parts : (letters digits : Text) (position : ℕ × ℕ) → cell_of letters digits ≡ Some position → CellParts letters digits position
cell_parts letters digits position h =
    let row = and_read (λ (row : ℕ). option_map (λ (column : ℕ). (row, column)) (column_of letters)) (row_of digits) position h in
    let column = map_read (λ (column : ℕ). (row.0, column)) (column_of letters) position row.2 in
    let numbered = row_number digits row.0 row.1 in
    let named = column_letters letters column.0 column.1 in
    record { some = named.0; letter = named.1; more = numbered.0; digit = numbered.1 }

-- a letter in either case
small_letter : (c d : ℕ) → to_ascii_lowercase c ≡ d → 97 ≤ d → d ≤ 122 → is_name_letter c ≡ true
small_letter c d e low high = grind (arith, nat_tests)

-- small letters
abbrev is_small : ℕ → Bool
is_small d = nat_le 97 d && nat_le d 122

small_letters : (word name : Text) → map to_ascii_lowercase word ≡ name → list_all is_small name ≡ true → list_all is_name_letter word ≡ true
small_letters [] name e h = refl
small_letters (c ∷ word) [] e h = let apart : length (map to_ascii_lowercase (c ∷ word)) ≡ 0 = ap length e in absurd (omega (arith, apart))
small_letters (c ∷ word) (d ∷ name) e h =
    let parts = both (is_small d) (list_all is_small name) h in
    let bounds = both (nat_le 97 d) (nat_le d 122) parts.0 in
    let first : to_ascii_lowercase c ≡ d = cc (e) in
    let rest : map to_ascii_lowercase word ≡ name = cc (e) in
    both_true (is_name_letter c) (list_all is_name_letter word) (small_letter c d first (leb-true 97 d bounds.0) (leb-true d 122 bounds.1)) (small_letters word name rest parts.1)

-- the letters of a name, small
named_small : (word name : Text) → is_named word name ≡ true → map to_ascii_lowercase word ≡ map to_ascii_lowercase name
named_small word name h = (bytes_eq-Decides (map to_ascii_lowercase word) (map to_ascii_lowercase name)).0 h

first_letter : (word : Text) (d : ℕ) (name : Text) → map to_ascii_lowercase word ≡ d ∷ name → list_all is_name_letter word ≡ true → (c : ℕ) × (w : Text) × (word ≡ c ∷ w) × (is_name_letter c ≡ true)
first_letter [] d name e h = let apart : 0 ≡ length (d ∷ name) = ap length e in absurd (omega arith)
first_letter (c ∷ w) d name e h = (c, w, refl, (both (is_name_letter c) (list_all is_name_letter w) h).0)

-- a word that is letters, the first one known
letters_begin : (word : Text) → nat_le 1 (length word) ≡ true → list_all is_name_letter word ≡ true → (c : ℕ) × (w : Text) × (word ≡ c ∷ w) × (is_name_letter c ≡ true)
letters_begin [] some h = absurd (no_true some)
letters_begin (c ∷ w) some h = (c, w, refl, (both (is_name_letter c) (list_all is_name_letter w) h).0)

named_begins : (token : Token) (word : Text) (d : ℕ) (name : Text) → is_word token ≡ true → list_all is_small (d ∷ name) ≡ true → map to_ascii_lowercase word ≡ d ∷ name → (c : ℕ) × (w : Text) × (word ≡ c ∷ w) × Begins token c
named_begins token word d name is_one small e =
    let p = first_letter word d name e (small_letters word (d ∷ name) e small) in
    (p.0, p.1, p.2, letter_begins token p.0 is_one p.3)

function_begins : (name : Named) (word : Text) → is_named word (function_text name) ≡ true → (c : ℕ) × (w : Text) × (word ≡ c ∷ w) × Begins (Function name) c
function_begins function.Sum word h = named_begins (Function function.Sum) word 115 (117 ∷ (109 ∷ [])) refl refl (named_small word (codes "SUM") h)
function_begins function.Min word h = named_begins (Function function.Min) word 109 (105 ∷ (110 ∷ [])) refl refl (named_small word (codes "MIN") h)
function_begins function.Max word h = named_begins (Function function.Max) word 109 (97 ∷ (120 ∷ [])) refl refl (named_small word (codes "MAX") h)
function_begins function.Count word h = named_begins (Function function.Count) word 99 (111 ∷ (117 ∷ (110 ∷ (116 ∷ [])))) refl refl (named_small word (codes "COUNT") h)

-- a sign that is no word
plain_begins : (token : Token) (c : ℕ) → word_char c ≡ false → (is_compare token ≡ false → compare_char c ≡ false) → c ≢ 32 → Begins token c
plain_begins token c a b d = record { word = λ _. a; compare = b; blank = d }

operator_begins : (operator : Operator) (word : Text) → word ≡ operator_text operator → (c : ℕ) × (w : Text) × (word ≡ c ∷ w) × Begins (Sign operator) c
operator_begins sign.Add word h = (43, [], h, plain_begins (Sign sign.Add) 43 refl (λ _. refl) (λ e. omega (arith, e)))
operator_begins sign.Subtract word h = (45, [], h, plain_begins (Sign sign.Subtract) 45 refl (λ _. refl) (λ e. omega (arith, e)))
operator_begins sign.Multiply word h = (42, [], h, plain_begins (Sign sign.Multiply) 42 refl (λ _. refl) (λ e. omega (arith, e)))
operator_begins sign.Divide word h = (47, [], h, plain_begins (Sign sign.Divide) 47 refl (λ _. refl) (λ e. omega (arith, e)))

comparing : (sign : Comparison) (c : ℕ) → word_char c ≡ false → c ≢ 32 → Begins (Compare sign) c
comparing sign c a d = record { word = λ _. a; compare = λ e. absurd (no_true (sym e)); blank = d }

comparison_begins : (sign : Comparison) (word : Text) → word ≡ comparison_text sign → (c : ℕ) × (w : Text) × (word ≡ c ∷ w) × Begins (Compare sign) c
comparison_begins comparison.Equal word h = (61, [], h, comparing comparison.Equal 61 refl (λ e. omega (arith, e)))
comparison_begins comparison.NotEqual word h = (60, 62 ∷ [], h, comparing comparison.NotEqual 60 refl (λ e. omega (arith, e)))
comparison_begins comparison.Less word h = (60, [], h, comparing comparison.Less 60 refl (λ e. omega (arith, e)))
comparison_begins comparison.Greater word h = (62, [], h, comparing comparison.Greater 62 refl (λ e. omega (arith, e)))
comparison_begins comparison.AtMost word h = (60, 61 ∷ [], h, comparing comparison.AtMost 60 refl (λ e. omega (arith, e)))
comparison_begins comparison.AtLeast word h = (62, 61 ∷ [], h, comparing comparison.AtLeast 62 refl (λ e. omega (arith, e)))

-- how each word and sign begins
begins : (token : Token) (word : Text) → IsSpelled word token → (c : ℕ) × (w : Text) × (word ≡ c ∷ w) × Begins token c
begins (Number z) word h =
    let p = number_digits 19 9223372036854775807 word h.0 h.2 in
    let q = first_digit word p.0 p.1 in
    (q.0, q.1, q.2, digit_begins (Number z) q.0 refl q.3)
begins (Words text) word h = (34, doubled text ++ 34 ∷ [], h, record { word = λ e. absurd (no_true (sym e)); compare = λ _. refl; blank = λ e. omega (arith, e) })
begins (Cell position) word h =
    let letters = take (prefix_len is_name_letter word) word in
    let parts = cell_parts letters (drop (prefix_len is_name_letter word) word) position h in
    let p = letters_begin letters parts.some parts.letter in (
      p.0,
      p.1 ++ drop (prefix_len is_name_letter word) word,
      sym (take-append-drop (prefix_len is_name_letter word) word) ∙ ap (λ (ts : Text). ts ++ drop (prefix_len is_name_letter word) word) p.2,
      letter_begins (Cell position) p.0 refl p.3,
    )
begins (Function name) word h = function_begins name word h
begins If word h = named_begins If word 105 (102 ∷ []) refl refl (named_small word (codes "IF") h)
begins (Sign operator) word h = operator_begins operator word h
begins (Compare sign) word h = comparison_begins sign word h
begins Open word h = (40, [], h, plain_begins Open 40 refl (λ _. refl) (λ e. omega (arith, e)))
begins Close word h = (41, [], h, plain_begins Close 41 refl (λ _. refl) (λ e. omega (arith, e)))
begins Comma word h = (44, [], h, plain_begins Comma 44 refl (λ _. refl) (λ e. omega (arith, e)))
begins Colon word h = (58, [], h, plain_begins Colon 58 refl (λ _. refl) (λ e. omega (arith, e)))

digit_no_quote : (c : ℕ) → is_ascii_digit c ≡ true → (c == 34) ≡ false
digit_no_quote c h = grind (arith, nat_tests)

letter_no_quote : (c : ℕ) → is_name_letter c ≡ true → (c == 34) ≡ false
letter_no_quote c h = grind (arith, nat_tests)

letter_no_digit : (c : ℕ) → is_name_letter c ≡ true → is_ascii_digit c ≡ false
letter_no_digit c h = grind (arith, nat_tests)

-- how a text is read that begins with a digit, a letter, a quote
digit_first : (c : ℕ) (text : Text) → is_ascii_digit c ≡ true → token_at (c ∷ text) ≡ number_at (c ∷ text)
unfolding token_at
digit_first c text h = rw (digit_no_quote c h) (rw h refl)

letter_first : (c : ℕ) (text : Text) → is_name_letter c ≡ true → token_at (c ∷ text) ≡ name_at (c ∷ text)
unfolding token_at
letter_first c text h = rw (letter_no_quote c h) (rw (letter_no_digit c h) (rw h refl))

number_here : (word rest : Text) (value : ℕ) → list_all is_ascii_digit word ≡ true → prefix_len is_ascii_digit rest ≡ 0 → number 19 9223372036854775807 word ≡ Some value → number_at (word ++ rest) ≡ Some (Number (pos value), rest)
number_here word rest value digits ends read =
    let count : prefix_len is_ascii_digit (word ++ rest) ≡ length word = run_length is_ascii_digit word rest digits ∙ omega (arith, ends) in
    ap (λ (n : ℕ). option_map (λ (value : ℕ). (Number (pos value), drop n (word ++ rest))) (number 19 9223372036854775807 (take n (word ++ rest)))) count
    ∙ ap (λ (ts : Text). option_map (λ (value : ℕ). (Number (pos value), drop (length word) (word ++ rest))) (number 19 9223372036854775807 ts)) (take-append_seam word rest)
    ∙ ap (λ (ts : Text). option_map (λ (value : ℕ). (Number (pos value), ts)) (number 19 9223372036854775807 word)) (drop-append_seam word rest)
    ∙ ap (option_map (λ (value : ℕ). (Number (pos value), rest))) read

named_here : ℕ → ℕ → Text → Option (Token × Text)
named_here n m text = option_map (λ (token : Token). (token, drop (n + m) text)) (name_of (take n text) (take m (drop n text)))

name_here : (letters digits rest : Text) (token : Token) → list_all is_name_letter letters ≡ true → list_all is_ascii_digit digits ≡ true → prefix_len is_name_letter (digits ++ rest) ≡ 0 → prefix_len is_ascii_digit rest ≡ 0 → name_of letters digits ≡ Some token
    → name_at (letters ++ (digits ++ rest)) ≡ Some (token, rest)
unfolding named_here
name_here letters digits rest token h k ends_letter ends_digit read =
    let text = letters ++ (digits ++ rest) in
    let n = length letters in
    let m = length digits in
    let count : prefix_len is_name_letter text ≡ n = run_length is_name_letter letters (digits ++ rest) h ∙ omega (arith, ends_letter) in
    let behind : drop n text ≡ digits ++ rest = drop-append_seam letters (digits ++ rest) in
    let more : prefix_len is_ascii_digit (drop n text) ≡ m = ap (prefix_len is_ascii_digit) behind ∙ run_length is_ascii_digit digits rest k ∙ omega (arith, ends_digit) in
    let front : take n text ≡ letters = take-append_seam letters (digits ++ rest) in
    let middle : take m (drop n text) ≡ digits = ap (take m) behind ∙ take-append_seam digits rest in
    let left : drop (n + m) text ≡ rest = sym (drop-drop m n text) ∙ ap (drop m) behind ∙ drop-append_seam digits rest in
    ap (λ (x : ℕ). named_here x (prefix_len is_ascii_digit (drop x text)) text) count
    ∙ ap (λ (x : ℕ). named_here n x text) more
    ∙ ap (λ (ts : Text). option_map (λ (token : Token). (token, drop (n + m) text)) (name_of ts (take m (drop n text)))) front
    ∙ ap (λ (ts : Text). option_map (λ (token : Token). (token, drop (n + m) text)) (name_of letters ts)) middle
    ∙ ap (λ (ts : Text). option_map (λ (token : Token). (token, ts)) (name_of letters digits)) left
    ∙ ap (option_map (λ (token : Token). (token, rest))) read

-- the function that small letters name
abbrev function_small : Text → Option Token
function_small low =
    cond (bytes_eq low (map to_ascii_lowercase (codes "SUM"))) (Some (Function function.Sum)) (cond (bytes_eq low (map to_ascii_lowercase (codes "MIN"))) (Some (Function function.Min))
    (cond (bytes_eq low (map to_ascii_lowercase (codes "MAX"))) (Some (Function function.Max)) (cond (bytes_eq low (map to_ascii_lowercase (codes "COUNT"))) (Some (Function function.Count))
    (cond (bytes_eq low (map to_ascii_lowercase (codes "IF"))) (Some If) None))))

function_named : (name : Named) (word : Text) → is_named word (function_text name) ≡ true → function_of word ≡ Some (Function name)
function_named function.Sum word h = ap function_small (named_small word (codes "SUM") h)
function_named function.Min word h = ap function_small (named_small word (codes "MIN") h)
function_named function.Max word h = ap function_small (named_small word (codes "MAX") h)
function_named function.Count word h = ap function_small (named_small word (codes "COUNT") h)

function_letters : (name : Named) (word : Text) → is_named word (function_text name) ≡ true → list_all is_name_letter word ≡ true
function_letters function.Sum word h = small_letters word _ (named_small word (codes "SUM") h) refl
function_letters function.Min word h = small_letters word _ (named_small word (codes "MIN") h) refl
function_letters function.Max word h = small_letters word _ (named_small word (codes "MAX") h) refl
function_letters function.Count word h = small_letters word _ (named_small word (codes "COUNT") h) refl

-- a name of letters alone, read at the front
alone_here : (token : Token) (word rest : Text) (c : ℕ) (w : Text) → word ≡ c ∷ w → is_name_letter c ≡ true → is_word token ≡ true → list_all is_name_letter word ≡ true → function_of word ≡ Some token → Ends token rest → token_at (word ++ rest) ≡ Some (token, rest)
alone_here token word rest c w split first is_one letters read ends =
    ap (λ (ts : Text). token_at (ts ++ rest)) split
    ∙ letter_first c (w ++ rest) first
    ∙ ap (λ (ts : Text). name_at (ts ++ rest)) (sym split)
    ∙ name_here word [] rest token letters refl (ends_letters token rest is_one ends) (ends_digits token rest is_one ends) read

no_first : (digits rest : Text) → nat_lt 0 (length digits) ≡ true → list_all is_ascii_digit digits ≡ true → prefix_len is_name_letter (digits ++ rest) ≡ 0
no_first [] rest some h = absurd (no_true some)
no_first (d ∷ digits) rest some h = rw (no_letter d (both (is_ascii_digit d) (list_all is_ascii_digit digits) h).0) refl

cell_named : (letters digits : Text) (position : ℕ × ℕ) → nat_lt 0 (length digits) ≡ true → cell_of letters digits ≡ Some position → name_of letters digits ≡ Some (Cell position)
cell_named letters [] position some h = absurd (no_true some)
cell_named letters (d ∷ digits) position some h = ap (option_map (λ (position : ℕ × ℕ). Cell position)) h

cell_here : (word rest : Text) (position : ℕ × ℕ) → reference word ≡ Some position → Ends (Cell position) rest → token_at (word ++ rest) ≡ Some (Cell position, rest)
cell_here word rest position h ends =
    let letters = take (prefix_len is_name_letter word) word in
    let digits = drop (prefix_len is_name_letter word) word in
    let parts = cell_parts letters digits position h in
    let p = letters_begin letters parts.some parts.letter in
    let whole : word ++ rest ≡ letters ++ (digits ++ rest) = ap (λ (ts : Text). ts ++ rest) (sym (take-append-drop (prefix_len is_name_letter word) word)) ∙ append_assoc letters digits rest in
    let begun : letters ++ (digits ++ rest) ≡ p.0 ∷ (p.1 ++ (digits ++ rest)) = ap (λ (ts : Text). ts ++ (digits ++ rest)) p.2 in
    ap token_at (whole ∙ begun)
    ∙ letter_first p.0 (p.1 ++ (digits ++ rest)) p.3
    ∙ ap name_at (sym begun)
    ∙ name_here letters digits rest (Cell position) parts.letter parts.digit (no_first digits rest parts.more parts.digit) (ends_digits (Cell position) rest refl ends) (cell_named letters digits position parts.more h)

operator_here : (operator : Operator) (rest : Text) → token_at (operator_text operator ++ rest) ≡ Some (Sign operator, rest)
unfolding token_at
operator_here sign.Add rest = refl
operator_here sign.Subtract rest = refl
operator_here sign.Multiply rest = refl
operator_here sign.Divide rest = refl

-- the character behind a sign that compares is none that it could go on with
second_char : (sign : Comparison) (rest : Text) → Ends (Compare sign) rest → compare_char (slice_index rest 0) ≡ false
second_char sign [] ends = refl
second_char sign (c ∷ rest) ends = ends.1 refl

no_equal : (d : ℕ) → compare_char d ≡ false → (d == 61) ≡ false
no_equal d h = grind (arith, nat_tests)

no_greater : (d : ℕ) → compare_char d ≡ false → (d == 62) ≡ false
no_greater d h = grind (arith, nat_tests)

less_here : (rest : Text) → compare_char (slice_index rest 0) ≡ false → token_at (60 ∷ rest) ≡ Some (Compare comparison.Less, rest)
unfolding token_at
less_here [] h = refl
less_here (d ∷ rest) h = rw (no_equal d h) (rw (no_greater d h) refl)

greater_here : (rest : Text) → compare_char (slice_index rest 0) ≡ false → token_at (62 ∷ rest) ≡ Some (Compare comparison.Greater, rest)
unfolding token_at
greater_here [] h = refl
greater_here (d ∷ rest) h = rw (no_equal d h) refl

comparison_here : (sign : Comparison) (rest : Text) → Ends (Compare sign) rest → token_at (comparison_text sign ++ rest) ≡ Some (Compare sign, rest)
unfolding token_at
comparison_here comparison.Equal rest ends = refl
comparison_here comparison.NotEqual rest ends = refl
comparison_here comparison.Less rest ends = less_here rest (second_char comparison.Less rest ends)
comparison_here comparison.Greater rest ends = greater_here rest (second_char comparison.Greater rest ends)
comparison_here comparison.AtMost rest ends = refl
comparison_here comparison.AtLeast rest ends = refl

open_here : (rest : Text) → token_at (40 ∷ rest) ≡ Some (Open, rest)
unfolding token_at
open_here rest = refl

close_here : (rest : Text) → token_at (41 ∷ rest) ≡ Some (Close, rest)
unfolding token_at
close_here rest = refl

comma_here : (rest : Text) → token_at (44 ∷ rest) ≡ Some (Comma, rest)
unfolding token_at
comma_here rest = refl

colon_here : (rest : Text) → token_at (58 ∷ rest) ≡ Some (Colon, rest)
unfolding token_at
colon_here rest = refl

words_here : (text rest : Text) → NoQuote rest → token_at (34 ∷ ((doubled text ++ 34 ∷ []) ++ rest)) ≡ Some (Words text, rest)
unfolding token_at
words_here text rest other =
    ap words_at (append_assoc (doubled text) (34 ∷ []) rest)
    ∙ ap (option_map (λ (found : Text × Text). (Words found.0, found.1))) (doubled_read text rest other)

-- a word or sign is read where it stands
token_here : (token : Token) (word rest : Text) → IsSpelled word token → Ends token rest → token_at (word ++ rest) ≡ Some (token, rest)
token_here (Number z) word rest h ends =
    let p = number_digits 19 9223372036854775807 word h.0 h.2 in
    let q = first_digit word p.0 p.1 in
    ap (λ (ts : Text). token_at (ts ++ rest)) q.2
    ∙ digit_first q.0 (q.1 ++ rest) q.3
    ∙ ap (λ (ts : Text). number_at (ts ++ rest)) (sym q.2)
    ∙ number_here word rest h.0 p.1 (ends_digits (Number z) rest refl ends) h.2
    ∙ ap (λ (z : ℤ). Some (Number z, rest)) (sym h.1)
token_here (Words text) word rest h ends =
    ap (λ (ts : Text). token_at (ts ++ rest)) h
    ∙ words_here text rest (λ c behind e. ends_quote (Words text) c behind refl (subst (Ends (Words text)) e ends))
token_here (Cell position) word rest h ends = cell_here word rest position h ends
token_here (Function name) word rest h ends =
    let p = function_begins name word h in
    let letters = function_letters name word h in
    let first : is_name_letter p.0 ≡ true = (both (is_name_letter p.0) (list_all is_name_letter p.1) (ap (list_all is_name_letter) (sym p.2) ∙ letters)).0 in
    alone_here (Function name) word rest p.0 p.1 p.2 first refl letters (function_named name word h) ends
token_here If word rest h ends =
    let p = begins If word h in
    let letters : list_all is_name_letter word ≡ true = small_letters word (105 ∷ (102 ∷ [])) (named_small word (codes "IF") h) refl in
    let first : is_name_letter p.0 ≡ true = (both (is_name_letter p.0) (list_all is_name_letter p.1) (ap (list_all is_name_letter) (sym p.2) ∙ letters)).0 in
    alone_here If word rest p.0 p.1 p.2 first refl letters (ap function_small (named_small word (codes "IF") h)) ends
token_here (Sign operator) word rest h ends = ap (λ (ts : Text). token_at (ts ++ rest)) h ∙ operator_here operator rest
token_here (Compare sign) word rest h ends = ap (λ (ts : Text). token_at (ts ++ rest)) h ∙ comparison_here sign rest ends
token_here Open word rest h ends = ap (λ (ts : Text). token_at (ts ++ rest)) h ∙ open_here rest
token_here Close word rest h ends = ap (λ (ts : Text). token_at (ts ++ rest)) h ∙ close_here rest
token_here Comma word rest h ends = ap (λ (ts : Text). token_at (ts ++ rest)) h ∙ comma_here rest
token_here Colon word rest h ends = ap (λ (ts : Text). token_at (ts ++ rest)) h ∙ colon_here rest

-- what the words and signs behind one say of the first character there
abbrev EndsBefore : Token → List Token → Type 0
EndsBefore token [] = Unit {0}
EndsBefore token (other ∷ tokens) = Apart token other

blank_ends : (token : Token) (c : ℕ) (rest : Text) → (c == 32) ≡ true → Ends token (c ∷ rest)
blank_ends token c rest h = subst (λ (x : ℕ). Ends token (x ∷ rest)) (sym (eqb-true c 32 h)) ((λ _. refl), λ _. refl)

spaced_ends : (token other : Token) (blanks word rest : Text) → AreBlanks blanks → IsSpelled word other → Apart token other → Ends token (blanks ++ (word ++ rest))
spaced_ends token other [] word rest h is apart =
    let p = begins other word is in
    subst (λ (ts : Text). Ends token (ts ++ rest)) (sym p.2) ((λ w. p.3.word (apart.words w)), λ k. p.3.compare (apart.compare k))
spaced_ends token other (c ∷ blanks) word rest h is apart = blank_ends token c (blanks ++ (word ++ rest)) (both (c == 32) (list_all (λ c. c == 32) blanks) h).0

rest_ends : (token : Token) (tokens : List Token) (rest : Text) → EndsBefore token tokens → IsSpelledAs rest tokens → Ends token rest
rest_ends token [] [] apart is = tt
rest_ends token [] (c ∷ rest) apart is = blank_ends token c rest (both (c == 32) (list_all (λ c. c == 32) rest) is).0
rest_ends token (other ∷ tokens) rest apart is = subst (Ends token) (sym is.3) (spaced_ends token other is.0 is.1 is.2 is.4 is.5 apart)

head_apart : (token : Token) (tokens : List Token) → AreApart (token ∷ tokens) → EndsBefore token tokens × AreApart tokens
head_apart token [] h = (tt, tt)
head_apart token (other ∷ tokens) h = (h.0, h.1)

tokenized_blank : (n c : ℕ) (text : Text) → (c == 32) ≡ true → tokenize (suc n) (c ∷ text) ≡ tokenize n text
unfolding tokenize
tokenized_blank n c text h = rw h refl

-- blanks in front fall away
blanks_fall : (blanks text : Text) (n : ℕ) → AreBlanks blanks → length (blanks ++ text) ≤ n → (m : ℕ) × (length text ≤ m) × (tokenize n (blanks ++ text) ≡ tokenize m text)
blanks_fall [] text n h enough = (n, enough, refl)
blanks_fall (c ∷ blanks) text zero h enough = absurd (omega arith)
blanks_fall (c ∷ blanks) text (suc n) h enough =
    let p = both (c == 32) (list_all (λ c. c == 32) blanks) h in
    let rest = blanks_fall blanks text n p.1 (omega arith) in
    (rest.0, rest.1, tokenized_blank n c (blanks ++ text) p.0 ∙ rest.2)

tokenized_nothing : (n : ℕ) → tokenize n [] ≡ Some []
unfolding tokenize
tokenized_nothing zero = refl
tokenized_nothing (suc n) = refl

tokenized_step : (n c : ℕ) (text rest : Text) (token : Token) → c ≢ 32 → token_at (c ∷ text) ≡ Some (token, rest) → tokenize (suc n) (c ∷ text) ≡ with_token token (tokenize n rest)
unfolding tokenize
tokenized_step n c text rest token other read = rw (ne_eqb c 32 other) (rw read refl)

cut_from : (m : ℕ) (c : ℕ) (w word rest : Text) (token : Token) (tokens : List Token) → length (word ++ rest) ≤ m → word ≡ c ∷ w → c ≢ 32 → token_at (word ++ rest) ≡ Some (token, rest)
    → ((n : ℕ) → length rest ≤ n → tokenize n rest ≡ Some tokens) → tokenize m (word ++ rest) ≡ Some (token ∷ tokens)
cut_from zero c w word rest token tokens enough split other read more =
    let long : length (word ++ rest) ≡ length (c ∷ (w ++ rest)) = ap (λ (ts : Text). length (ts ++ rest)) split in
    absurd (omega (arith, long))
cut_from (suc n) c w word rest token tokens enough split other read more =
    let whole : word ++ rest ≡ c ∷ (w ++ rest) = ap (λ (ts : Text). ts ++ rest) split in
    let long : length (word ++ rest) ≡ length (c ∷ (w ++ rest)) = ap length whole in
    ap (tokenize (suc n)) whole
    ∙ tokenized_step n c (w ++ rest) rest token other (ap token_at (sym whole) ∙ read)
    ∙ ap (with_token token) (more n (omega (arith, long, length-append w rest)))

tokenized_here : (tokens : List Token) (text : Text) → AreApart tokens → IsSpelledAs text tokens → (n : ℕ) → length text ≤ n → tokenize n text ≡ Some tokens
tokenized_here [] text apart is n enough =
    let long : length (text ++ []) ≡ length text = ap length (append-nil text) in
    let p = blanks_fall text [] n is (omega (arith, long)) in
    ap (tokenize n) (sym (append-nil text)) ∙ p.2 ∙ tokenized_nothing p.0
tokenized_here (token ∷ tokens) text apart is n enough =
    let blanks = is.0 in
    let word = is.1 in
    let rest = is.2 in
    let heads = head_apart token tokens apart in
    let long : length text ≡ length (blanks ++ (word ++ rest)) = ap length is.3 in
    let p = blanks_fall blanks (word ++ rest) n is.4 (omega (arith, long)) in
    let first = begins token word is.5 in
    ap (tokenize n) is.3 ∙ p.2
    ∙ cut_from p.0 first.0 first.1 word rest token tokens p.1 first.2 first.3.blank (token_here token word rest is.5 (rest_ends token tokens rest heads.0 is.6)) (λ n enough. tokenized_here tokens rest heads.1 is.6 n enough)

pub cut_apart : (text : Text) (tokens : List Token) → AreApart tokens → IsSpelledAs text tokens → tokens_of text ≡ Some tokens
cut_apart text tokens apart is = tokenized_here tokens text apart is (length text) (omega arith)

pub readable : (raw : Text) (expression : Expr) → IsFormulaText raw expression → formula_of raw ≡ Some expression
readable raw expression is =
    complete raw expression (is.0, is.1, is.2, cut_apart is.0 is.1 (comparison_apart is.1 expression is.4) is.3, is.4)

pub unique : (raw : Text) (one other : Expr) → IsFormulaText raw one → IsFormulaText raw other → one ≡ other
unique raw one other a b = same_some one other (sym (readable raw one a) ∙ readable raw other b)
