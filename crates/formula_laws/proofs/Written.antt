-- What is read is written so.
use Rattle.std.proofs.Common.{◌≡◌, ◌≢◌, ◌⊎◌, inl, inr, ℕ, zero, suc, pos, ◌+◌, Bool, true, false, List, [], ◌∷◌, ◌++◌, length, take, drop, refl, sym, ◌∙◌, ap, subst, append_assoc, append-nil, arith}
use Rattle.std.specs.Prelude.{Option, Some, None, option_map, option_and_then, ◌==◌, ◌||◌, cond, codes, slice_index}
use Rattle.std.specs.List.{list_all, prefix_len}
use Rattle.std.specs.Char.{is_ascii_digit}
use Rattle.std.proofs.Math.Seq.{drop-append_seam, take-append_seam}
use Rattle.std.proofs.lemmas.List.{take-append-drop, drop-drop}
use Rattle.std.proofs.lemmas.Bool.{eqb-true}
use Rattle.cool_base.specs.Numbers.{number}
use Rattle.sheet_cells.specs.References.{is_name_letter, cell_of, reference}
use Rattle.formula_base.specs.declared.expressions.Operator.TheVariants as sign
use Rattle.formula_base.specs.declared.expressions.Comparison.TheVariants as comparison
use Rattle.formula_base.specs.declared.expressions.Function.TheVariants as function
use Rattle.formula_base.specs.declared.expressions.Expr.{Expr}
use Rattle.sheet_formula.specs.declared.tokens.Token.{Token}
use Rattle.sheet_formula.specs.declared.tokens.Token.TheVariants.{Number, Words, Cell, Function, If, Sign, Compare, Open, Close, Comma, Colon}
use Rattle.sheet_formula.specs.Tokens.{Text, sign_of, compared_of, is_named, function_of, name_of, name_at, number_at, sign_at, quoted, with_front, words_at, bare_at, token_at, tokenize, with_token}
use Rattle.sheet_formula.specs.Grammar.{formula_of}
use Rattle.formula_laws.proofs.Sound.{sound, no_some, same_some}
use Rattle.formula_laws.specs.Spelling.{doubled, IsSpelled, IsSpelledAs, IsFormulaText}
use Rattle.formula_laws.proofs.Characters.{run_length, run_all, no_true, both, both_true, no_letter}

abbrev paired_texts : Text → Text → Text × Text
paired_texts words rest = (words, rest)

abbrev sign_pair : Token → ℕ → Token × ℕ
sign_pair token n = (token, n)

-- the signs that neither compare nor add
abbrev other_signs : ℕ → Option (Token × ℕ)
other_signs c =
    cond (c == 42) (Some (sign_pair (Sign sign.Multiply) 1)) (cond (c == 47) (Some (sign_pair (Sign sign.Divide) 1)) (cond (c == 40) (Some (sign_pair Open 1))
    (cond (c == 41) (Some (sign_pair Close 1)) (cond (c == 44) (Some (sign_pair Comma 1)) (cond (c == 58) (Some (sign_pair Colon 1)) None)))))

last_of : (a b c : Bool) → (a || b || c) ≡ true → a ≡ false → b ≡ false → c ≡ true
last_of false false c h x y = h
last_of true b c h x y = absurd (no_true (sym x))
last_of false true c h x y = absurd (no_true (sym y))

-- a word or sign at the front of a text, and what is behind it
abbrev Cutted : Text → Token → Text → Type 0
Cutted text token rest = (word : Text) × (text ≡ word ++ rest) × IsSpelled word token

pub map_read : {A B : Type 0} (f : A → B) (found : Option A) (y : B) → option_map f found ≡ Some y → (x : A) × (found ≡ Some x) × (f x ≡ y)
map_read f None y h = absurd (no_some y h)
map_read f (Some x) y h = (x, refl, same_some (f x) y h)

-- a test and what it chooses
pub choose : {A : Type 0} (b : Bool) (x y z : A) → cond b x y ≡ z → ((b ≡ true) × (x ≡ z)) ⊎ ((b ≡ false) × (y ≡ z))
choose true x y z h = inl (refl, h)
choose false x y z h = inr (refl, h)

abbrev paired : Token → Text → Token × Text
paired token rest = (token, rest)

carried : (text rest behind : Text) (token other : Token) → paired token behind ≡ (other, rest) → Cutted text token behind → Cutted text other rest
carried text rest behind token other h c = subst (λ (q : Token × Text). Cutted text q.0 q.1) h c

number_written : (text rest : Text) (token : Token) → number_at text ≡ Some (token, rest) → Cutted text token rest
number_written text rest token h =
    let n = prefix_len is_ascii_digit text in
    let p = map_read (λ (value : ℕ). (Number (pos value), drop n text)) (number 19 9223372036854775807 (take n text)) (token, rest) h in
    carried text rest (drop n text) (Number (pos p.0)) token p.2 (take n text, sym (take-append-drop n text), (p.0, refl, p.1))

function_written : (letters : Text) (token : Token) → function_of letters ≡ Some token → IsSpelled letters token
function_written letters token h =
    elim (choose (is_named letters (codes "SUM")) _ _ (Some token) h) [
      | inl a ↦ subst (IsSpelled letters) (same_some (Function function.Sum) token a.1) a.0
      | inr a ↦ elim (choose (is_named letters (codes "MIN")) _ _ (Some token) a.1) [
        | inl b ↦ subst (IsSpelled letters) (same_some (Function function.Min) token b.1) b.0
        | inr b ↦ elim (choose (is_named letters (codes "MAX")) _ _ (Some token) b.1) [
          | inl c ↦ subst (IsSpelled letters) (same_some (Function function.Max) token c.1) c.0
          | inr c ↦ elim (choose (is_named letters (codes "COUNT")) _ _ (Some token) c.1) [
            | inl d ↦ subst (IsSpelled letters) (same_some (Function function.Count) token d.1) d.0
            | inr d ↦ elim (choose (is_named letters (codes "IF")) _ _ (Some token) d.1) [
              | inl e ↦ subst (IsSpelled letters) (same_some If token e.1) e.0
              | inr e ↦ absurd (no_some token e.1)
            ]
          ]
        ]
      ]
    ]

reference_of : (letters digits : Text) (d : ℕ) → list_all is_name_letter letters ≡ true → is_ascii_digit d ≡ true → reference (letters ++ d ∷ digits) ≡ cell_of letters (d ∷ digits)
reference_of letters digits d h k =
    let first : prefix_len is_name_letter (d ∷ digits) ≡ 0 = rw (no_letter d k) refl in
    let count : prefix_len is_name_letter (letters ++ d ∷ digits) ≡ length letters = run_length is_name_letter letters (d ∷ digits) h ∙ omega (arith, first) in
    rw count (rw (take-append_seam letters (d ∷ digits), drop-append_seam letters (d ∷ digits)) refl)

name_written : (letters digits : Text) (token : Token) → list_all is_name_letter letters ≡ true → list_all is_ascii_digit digits ≡ true → name_of letters digits ≡ Some token → IsSpelled (letters ++ digits) token
name_written letters [] token h k read = subst (λ (word : Text). IsSpelled word token) (sym (append-nil letters)) (function_written letters token read)
name_written letters (d ∷ digits) token h k read =
    let p = map_read (λ (position : ℕ × ℕ). Cell position) (cell_of letters (d ∷ digits)) token read in
    let first = both (is_ascii_digit d) (list_all is_ascii_digit digits) k in
    subst (IsSpelled (letters ++ d ∷ digits)) p.2 (reference_of letters digits d h first.0 ∙ p.1)

name_at_written : (text rest : Text) (token : Token) → name_at text ≡ Some (token, rest) → Cutted text token rest
name_at_written text rest token h =
    let n = prefix_len is_name_letter text in
    let m = prefix_len is_ascii_digit (drop n text) in
    let p = map_read (λ (token : Token). (token, drop (n + m) text)) (name_of (take n text) (take m (drop n text))) (token, rest) h in
    let split : text ≡ (take n text ++ take m (drop n text)) ++ drop (n + m) text =
    sym (take-append-drop n text)
    ∙ ap (λ (ts : Text). take n text ++ ts) (sym (take-append-drop m (drop n text)) ∙ ap (λ (ts : Text). take m (drop n text) ++ ts) (drop-drop m n text))
    ∙ sym (append_assoc (take n text) (take m (drop n text)) (drop (n + m) text)) in
    carried text rest (drop (n + m) text) p.0 token p.2
    (take n text ++ take m (drop n text), split, name_written (take n text) (take m (drop n text)) p.0 (run_all is_name_letter text) (run_all is_ascii_digit (drop n text)) p.1)

front_read : (front : Text) (found : Option (Text × Text)) (words rest : Text) → with_front front found ≡ Some (words, rest) → (inner : Text) × (found ≡ Some (inner, rest)) × (words ≡ front ++ inner)
front_read front found words rest h =
    let p = map_read (λ (found : Text × Text). (front ++ found.0, found.1)) found (words, rest) h in
    (p.0.0, p.1 ∙ ap (λ (behind : Text). Some (p.0.0, behind)) (ap (λ (q : Text × Text). q.1) p.2), sym (ap (λ (q : Text × Text). q.0) p.2))

doubled_quote : (text : Text) → doubled (34 ∷ text) ≡ 34 ∷ (34 ∷ doubled text)
doubled_quote text = refl

doubled_other : (c : ℕ) (text : Text) → (c == 34) ≡ false → doubled (c ∷ text) ≡ c ∷ doubled text
doubled_other c text h = rw h refl

-- the words are those in front of the closing quote
abbrev Quotes : Text → Text → Text → Type 0
Quotes text words rest = text ≡ doubled words ++ 34 ∷ rest

quote_closes : (c : ℕ) (text words rest behind : Text) → c ≡ 34 → Some (paired_texts [] behind) ≡ Some (words, rest) → text ≡ c ∷ behind → Quotes text words rest
quote_closes c text words rest behind e h split =
    subst (λ (q : Text × Text). Quotes text q.0 q.1) (same_some (paired_texts [] behind) (words, rest) h) (split ∙ ap (λ (c : ℕ). c ∷ behind) e)

quoted_written : (text words rest : Text) → quoted text ≡ Some (words, rest) → Quotes text words rest
quoted_written [] words rest h = absurd (no_some (words, rest) h)
quoted_written (c ∷ []) words rest h =
    elim (choose (c == 34) _ _ (Some (words, rest)) h) [
      | inl a ↦ quote_closes c (c ∷ []) words rest [] (eqb-true c 34 a.0) a.1 refl
      | inr a ↦ absurd (no_some (words, rest) a.1)
    ]
quoted_written (c ∷ (d ∷ text)) words rest h =
    elim (choose (c == 34) _ _ (Some (words, rest)) h) [
      | inl a ↦ elim (choose (d == 34) _ _ (Some (words, rest)) a.1) [
        | inl b ↦
            let p = front_read (34 ∷ []) (quoted text) words rest b.1 in
            ap (λ (x : ℕ). x ∷ (d ∷ text)) (eqb-true c 34 a.0) ∙ ap (λ (x : ℕ). 34 ∷ (x ∷ text)) (eqb-true d 34 b.0)
            ∙ ap (λ (ts : Text). 34 ∷ (34 ∷ ts)) (quoted_written text p.0 rest p.1)
            ∙ ap (λ (ts : Text). doubled ts ++ 34 ∷ rest) (sym p.2)
        | inr b ↦ quote_closes c (c ∷ (d ∷ text)) words rest (d ∷ text) (eqb-true c 34 a.0) b.1 refl
      ]
      | inr a ↦
          let p = front_read (c ∷ []) (quoted (d ∷ text)) words rest a.1 in
          ap (λ (ts : Text). c ∷ ts) (quoted_written (d ∷ text) p.0 rest p.1)
          ∙ ap (λ (ts : Text). ts ++ 34 ∷ rest) (sym (doubled_other c p.0 a.0))
          ∙ ap (λ (ts : Text). doubled ts ++ 34 ∷ rest) (sym p.2)
    ]

words_written : (text rest : Text) (token : Token) → words_at text ≡ Some (token, rest) → Cutted (34 ∷ text) token rest
words_written text rest token h =
    let p = map_read (λ (found : Text × Text). (Words found.0, found.1)) (quoted text) (token, rest) h in
    carried (34 ∷ text) rest p.0.1 (Words p.0.0) token p.2 (
      34 ∷ (doubled p.0.0 ++ 34 ∷ []),
      ap (λ (ts : Text). 34 ∷ ts) (quoted_written text p.0.0 p.0.1 p.1 ∙ sym (append_assoc (doubled p.0.0) (34 ∷ []) p.0.1)),
      refl,
    )

-- the characters that a sign takes of two
abbrev SignOf : ℕ → ℕ → Token × ℕ → Type 0
SignOf c d found = ((found.1 ≡ 1) × IsSpelled (c ∷ []) found.0) ⊎ ((found.1 ≡ 2) × IsSpelled (c ∷ (d ∷ [])) found.0 × (d ≢ 0))

one_sign : (c d n : ℕ) (token : Token) (found : Token × ℕ) → (c == n) ≡ true → IsSpelled (n ∷ []) token → sign_pair token 1 ≡ found → SignOf c d found
one_sign c d n token found e is h = subst (SignOf c d) h (inl (refl, subst (λ (x : ℕ). IsSpelled (x ∷ []) token) (sym (eqb-true c n e)) is))

two_signs : (c d n m : ℕ) (token : Token) (found : Token × ℕ) → (c == n) ≡ true → (d == m) ≡ true → m ≢ 0 → IsSpelled (n ∷ (m ∷ [])) token → sign_pair token 2 ≡ found → SignOf c d found
two_signs c d n m token found e f some is h =
    subst (SignOf c d) h (inr (
      refl,
      subst (λ (x : ℕ). IsSpelled (x ∷ (d ∷ [])) token) (sym (eqb-true c n e)) (subst (λ (x : ℕ). IsSpelled (n ∷ (x ∷ [])) token) (sym (eqb-true d m f)) is),
      λ zeroed. some (sym (eqb-true d m f) ∙ zeroed),
    ))

compared_written : (c d : ℕ) (found : Token × ℕ) → (c == 60 || c == 61 || c == 62) ≡ true → compared_of c d ≡ found → SignOf c d found
compared_written c d found some h =
    elim (choose (c == 61) _ _ found h) [
      | inl a ↦ one_sign c d 61 (Compare comparison.Equal) found a.0 refl a.1
      | inr a ↦ elim (choose (c == 60) _ _ found a.1) [
        | inl b ↦ elim (choose (d == 61) _ _ found b.1) [
          | inl x ↦ two_signs c d 60 61 (Compare comparison.AtMost) found b.0 x.0 (λ z. omega (arith, z)) refl x.1
          | inr x ↦ elim (choose (d == 62) _ _ found x.1) [
            | inl y ↦ two_signs c d 60 62 (Compare comparison.NotEqual) found b.0 y.0 (λ z. omega (arith, z)) refl y.1
            | inr y ↦ one_sign c d 60 (Compare comparison.Less) found b.0 refl y.1
          ]
        ]
        | inr b ↦
            let greater : (c == 62) ≡ true = last_of (c == 60) (c == 61) (c == 62) some b.0 a.0 in
            elim (choose (d == 61) _ _ found b.1) [
              | inl x ↦ two_signs c d 62 61 (Compare comparison.AtLeast) found greater x.0 (λ z. omega (arith, z)) refl x.1
              | inr x ↦ one_sign c d 62 (Compare comparison.Greater) found greater refl x.1
            ]
      ]
    ]

others_written : (c d : ℕ) (found : Token × ℕ) → other_signs c ≡ Some found → SignOf c d found
others_written c d found h =
    elim (choose (c == 42) _ _ (Some found) h) [
      | inl a ↦ one_sign c d 42 (Sign sign.Multiply) found a.0 refl (same_some (sign_pair (Sign sign.Multiply) 1) found a.1)
      | inr a ↦ elim (choose (c == 47) _ _ (Some found) a.1) [
        | inl b ↦ one_sign c d 47 (Sign sign.Divide) found b.0 refl (same_some (sign_pair (Sign sign.Divide) 1) found b.1)
        | inr b ↦ elim (choose (c == 40) _ _ (Some found) b.1) [
          | inl x ↦ one_sign c d 40 Open found x.0 refl (same_some (sign_pair Open 1) found x.1)
          | inr x ↦ elim (choose (c == 41) _ _ (Some found) x.1) [
            | inl y ↦ one_sign c d 41 Close found y.0 refl (same_some (sign_pair Close 1) found y.1)
            | inr y ↦ elim (choose (c == 44) _ _ (Some found) y.1) [
              | inl z ↦ one_sign c d 44 Comma found z.0 refl (same_some (sign_pair Comma 1) found z.1)
              | inr z ↦ elim (choose (c == 58) _ _ (Some found) z.1) [
                | inl w ↦ one_sign c d 58 Colon found w.0 refl (same_some (sign_pair Colon 1) found w.1)
                | inr w ↦ absurd (no_some found w.1)
              ]
            ]
          ]
        ]
      ]
    ]

sign_written : (c d : ℕ) (found : Token × ℕ) → sign_of c d ≡ Some found → SignOf c d found
sign_written c d found h =
    elim (choose (c == 60 || c == 61 || c == 62) _ _ (Some found) h) [
      | inl a ↦ compared_written c d found a.0 (same_some (compared_of c d) found a.1)
      | inr a ↦ elim (choose (c == 43) _ _ (Some found) a.1) [
        | inl b ↦ one_sign c d 43 (Sign sign.Add) found b.0 refl (same_some (sign_pair (Sign sign.Add) 1) found b.1)
        | inr b ↦ elim (choose (c == 45) _ _ (Some found) b.1) [
          | inl x ↦ one_sign c d 45 (Sign sign.Subtract) found x.0 refl (same_some (sign_pair (Sign sign.Subtract) 1) found x.1)
          | inr x ↦ others_written c d found x.1
        ]
      ]
    ]

from_one : (c : ℕ) (text : Text) (found : Token × ℕ) → (found.1 ≡ 1) × IsSpelled (c ∷ []) found.0 → Cutted (c ∷ text) found.0 (drop found.1 (c ∷ text))
from_one c text found p = (c ∷ [], rw p.0 refl, p.1)

from_two : (c d : ℕ) (text : Text) (found : Token × ℕ) → (found.1 ≡ 2) × IsSpelled (c ∷ (d ∷ [])) found.0 × (d ≢ 0) → Cutted (c ∷ (d ∷ text)) found.0 (drop found.1 (c ∷ (d ∷ text)))
from_two c d text found p = (c ∷ (d ∷ []), rw p.0 refl, p.1)

sign_found : (c : ℕ) (text : Text) (found : Token × ℕ) → sign_of c (slice_index (c ∷ text) 1) ≡ Some found → Cutted (c ∷ text) found.0 (drop found.1 (c ∷ text))
sign_found c [] found h = elim (sign_written c 0 found h) [ inl a ↦ from_one c [] found a | inr b ↦ absurd (b.2 refl) ]
sign_found c (d ∷ text) found h = elim (sign_written c d found h) [ inl a ↦ from_one c (d ∷ text) found a | inr b ↦ from_two c d text found b ]

sign_at_written : (c : ℕ) (text rest : Text) (token : Token) → sign_at (c ∷ text) ≡ Some (token, rest) → Cutted (c ∷ text) token rest
sign_at_written c text rest token h =
    let p = map_read (λ (found : Token × ℕ). (found.0, drop found.1 (c ∷ text))) (sign_of c (slice_index (c ∷ text) 1)) (token, rest) h in
    carried (c ∷ text) rest (drop p.0.1 (c ∷ text)) p.0.0 token p.2 (sign_found c text p.0 p.1)

bare_written : (c : ℕ) (text rest : Text) (token : Token) → bare_at c (c ∷ text) ≡ Some (token, rest) → Cutted (c ∷ text) token rest
bare_written c text rest token h =
    elim (choose (is_ascii_digit c) _ _ (Some (token, rest)) h) [
      | inl a ↦ number_written (c ∷ text) rest token a.1
      | inr a ↦ elim (choose (is_name_letter c) _ _ (Some (token, rest)) a.1) [
        | inl b ↦ name_at_written (c ∷ text) rest token b.1
        | inr b ↦ sign_at_written c text rest token b.1
      ]
    ]

token_written : (c : ℕ) (text rest : Text) (token : Token) → token_at (c ∷ text) ≡ Some (token, rest) → Cutted (c ∷ text) token rest
unfolding token_at
token_written c text rest token h =
    elim (choose (c == 34) _ _ (Some (token, rest)) h) [
      | inl a ↦ subst (λ (x : ℕ). Cutted (x ∷ text) token rest) (sym (eqb-true c 34 a.0)) (words_written text rest token a.1)
      | inr a ↦ bare_written c text rest token a.1
    ]

pub and_read : {A B : Type 0} (f : A → Option B) (found : Option A) (y : B) → option_and_then f found ≡ Some y → (x : A) × (found ≡ Some x) × (f x ≡ Some y)
and_read f None y h = absurd (no_some y h)
and_read f (Some x) y h = (x, refl, h)

blank_written : (c : ℕ) (text : Text) (tokens : List Token) → (c == 32) ≡ true → IsSpelledAs text tokens → IsSpelledAs (c ∷ text) tokens
blank_written c text [] h is = both_true (c == 32) (list_all (λ c. c == 32) text) h is
blank_written c text (token ∷ tokens) h is =
    (c ∷ is.0, is.1, is.2, ap (λ (ts : Text). c ∷ ts) is.3, both_true (c == 32) (list_all (λ c. c == 32) is.0) h is.4, is.5, is.6)

tokenized_written : (n : ℕ) (text : Text) (tokens : List Token) → tokenize n text ≡ Some tokens → IsSpelledAs text tokens
unfolding tokenize
tokenized_written n [] tokens h = subst (IsSpelledAs []) (same_some [] tokens h) refl
tokenized_written zero (c ∷ text) tokens h = absurd (no_some tokens h)
tokenized_written (suc n) (c ∷ text) tokens h =
    elim (choose (c == 32) _ _ (Some tokens) h) [
      | inl a ↦ blank_written c text tokens a.0 (tokenized_written n text tokens a.1)
      | inr a ↦
          let p = and_read (λ (found : Token × Text). with_token found.0 (tokenize n found.1)) (token_at (c ∷ text)) tokens a.1 in
          let q = map_read (λ (tokens : List Token). p.0.0 ∷ tokens) (tokenize n p.0.1) tokens p.2 in
          let w = token_written c text p.0.1 p.0.0 p.1 in
          subst (IsSpelledAs (c ∷ text)) q.2 ([], w.0, p.0.1, w.1, refl, w.2, tokenized_written n p.0.1 q.0 q.1)
    ]

pub written : (raw : Text) (expression : Expr) → formula_of raw ≡ Some expression → IsFormulaText raw expression
written raw expression read =
    let p = sound raw expression read in
    (p.0, p.1, p.2, tokenized_written (length p.0) p.0 p.1 p.3, p.4)
