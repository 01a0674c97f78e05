-- Runs of characters, and the first characters of words and signs.
use Rattle.std.proofs.Common.{◌≡◌, ◌≢◌, ℕ, zero, suc, ◌+◌, Bool, true, false, [], ◌∷◌, ◌++◌, length, take, refl, sym, ◌∙◌, ap, arith}
use Rattle.std.specs.Prelude.{◌==◌, ◌||◌, ◌&&◌, cond}
use Rattle.std.specs.List.{list_all, prefix_len}
use Rattle.std.specs.Char.{is_ascii_digit}
use Rattle.std.proofs.lemmas.Bool.Decides.{nat_tests}
use Rattle.sheet_cells.specs.References.{is_name_letter}
use Rattle.sheet_formula.specs.declared.tokens.Token.{Token}
use Rattle.sheet_formula.specs.declared.tokens.Token.TheVariants.{Number, Words, Cell, Function, If, Compare}
use Rattle.sheet_formula.specs.Tokens.{Text}

pub no_true : false ≡ true → ⊥
no_true h = let apart : zero ≡ suc zero = ap (λ (b : Bool). cond b (suc zero) zero) h in absurd (omega arith)

pub both : (a b : Bool) → (a && b) ≡ true → (a ≡ true) × (b ≡ true)
both true b h = (refl, h)
both false b h = absurd (no_true h)

pub both_true : (a b : Bool) → a ≡ true → b ≡ true → (a && b) ≡ true
both_true true b h k = k
both_true false b h k = h

-- a run of characters of a kind, and what follows it
pub run_length : (p : ℕ → Bool) (xs ys : Text) → list_all p xs ≡ true → prefix_len p (xs ++ ys) ≡ length xs + prefix_len p ys
run_length p [] ys h = sym (omega arith)
run_length p (c ∷ xs) ys h =
    let parts = both (p c) (list_all p xs) h in
    let rest = run_length p xs ys parts.1 in
    rw parts.0 (omega (arith, rest))

-- the characters of a kind that a text begins with
run_from : (p : ℕ → Bool) (c : ℕ) (text : Text) (b : Bool) → p c ≡ b → list_all p (take (prefix_len p text) text) ≡ true → list_all p (take (cond b (1 + prefix_len p text) 0) (c ∷ text)) ≡ true
run_from p c text true e h =
    let more : 1 + prefix_len p text ≡ suc (prefix_len p text) = omega arith in
    rw more (both_true (p c) (list_all p (take (prefix_len p text) text)) e h)
run_from p c text false e h = refl

pub run_all : (p : ℕ → Bool) (text : Text) → list_all p (take (prefix_len p text) text) ≡ true
run_all p [] = refl
run_all p (c ∷ text) = run_from p c text (p c) refl (run_all p text)

-- characters that a word may begin or go on with, and those that a sign that compares may
abbrev pub word_char : ℕ → Bool
word_char c = is_ascii_digit c || (is_name_letter c || c == 34)

abbrev pub compare_char : ℕ → Bool
compare_char c = c == 60 || (c == 61 || c == 62)

-- numbers, texts and names are words
abbrev pub is_word : Token → Bool
is_word (Number z) = true
is_word (Words text) = true
is_word (Cell position) = true
is_word (Function name) = true
is_word If = true
is_word _ = false

abbrev pub is_compare : Token → Bool
is_compare (Compare sign) = true
is_compare _ = false

-- what a first character says of the word or sign that it begins
pub record Begins (token : Token) (c : ℕ) : Type 0 where
  pub word : is_word token ≡ false → word_char c ≡ false
  pub compare : is_compare token ≡ false → compare_char c ≡ false
  pub blank : c ≢ 32

-- a text that can't go on with a token
abbrev pub Ends : Token → Text → Type 0
Ends token [] = Unit {0}
Ends token (c ∷ rest) = (is_word token ≡ true → word_char c ≡ false) × (is_compare token ≡ true → compare_char c ≡ false)

pub no_letter : (c : ℕ) → is_ascii_digit c ≡ true → is_name_letter c ≡ false
no_letter c h = grind (arith, nat_tests)

digit_compare : (c : ℕ) → is_ascii_digit c ≡ true → compare_char c ≡ false
digit_compare c h = grind (arith, nat_tests)

digit_blank : (c : ℕ) → is_ascii_digit c ≡ true → c ≢ 32
digit_blank c h e = grind (arith, nat_tests)

letter_compare : (c : ℕ) → is_name_letter c ≡ true → compare_char c ≡ false
letter_compare c h = grind (arith, nat_tests)

letter_blank : (c : ℕ) → is_name_letter c ≡ true → c ≢ 32
letter_blank c h e = grind (arith, nat_tests)

digit_word : (c : ℕ) → word_char c ≡ false → is_ascii_digit c ≡ false
digit_word c h = grind (arith, nat_tests)

letter_word : (c : ℕ) → word_char c ≡ false → is_name_letter c ≡ false
letter_word c h = grind (arith, nat_tests)

quote_word : (c : ℕ) → word_char c ≡ false → c ≢ 34
quote_word c h e = grind (arith, nat_tests)

pub digit_begins : (token : Token) (c : ℕ) → is_word token ≡ true → is_ascii_digit c ≡ true → Begins token c
digit_begins token c word h = record { word = λ no_word. absurd (no_true (sym no_word ∙ word)); compare = λ _. digit_compare c h; blank = digit_blank c h }

pub letter_begins : (token : Token) (c : ℕ) → is_word token ≡ true → is_name_letter c ≡ true → Begins token c
letter_begins token c word h = record { word = λ no_word. absurd (no_true (sym no_word ∙ word)); compare = λ _. letter_compare c h; blank = letter_blank c h }

-- a character that can't go on with a word
pub ends_digits : (token : Token) (rest : Text) → is_word token ≡ true → Ends token rest → prefix_len is_ascii_digit rest ≡ 0
ends_digits token [] word h = refl
ends_digits token (c ∷ rest) word h = rw (digit_word c (h.0 word)) refl

pub ends_letters : (token : Token) (rest : Text) → is_word token ≡ true → Ends token rest → prefix_len is_name_letter rest ≡ 0
ends_letters token [] word h = refl
ends_letters token (c ∷ rest) word h = rw (letter_word c (h.0 word)) refl

pub ends_quote : (token : Token) (c : ℕ) (rest : Text) → is_word token ≡ true → Ends token (c ∷ rest) → c ≢ 34
ends_quote token c rest word h = quote_word c (h.0 word)
