-- Tokenizing a text, step by step.
use Rattle.std.proofs.Common.{◌≡◌, ◌≢◌, ℕ, zero, suc, ◌<◌, ◌≤◌, ◌+◌, ◌-◌, List, [], ◌∷◌, ◌++◌, length, get_or, drop, refl, sym, ◌∙◌, ap, append_assoc, append-nil, add-one, arith, drop-cons}
use Rattle.std.specs.Prelude.{Option, Some, None, option_map, Err}
use Rattle.std.proofs.lemmas.Bool.{ne_eqb}
use Rattle.std.proofs.lemmas.List.{drop_all, drop-drop}
use Rattle.sheet_formula.specs.declared.tokens.Token.{Token}
use Rattle.sheet_formula.specs.declared.stop.Stop.{Stop}
use Rattle.sheet_formula.specs.declared.stop.Stop.TheVariants.{Memory, NoFormula}
use Rattle.sheet_formula.specs.Tokenizing.{FindsOrStops, Makes}
use Rattle.sheet_formula.specs.Tokens.{Text, token_at, tokenize, with_token, tokens_of}

-- more tokens in front of those that were found
abbrev pub with_tokens : List Token → Option (List Token) → Option (List Token)
with_tokens front read = option_map (λ tokens. front ++ tokens) read

push_token : (front : List Token) (token : Token) (read : Option (List Token)) → with_tokens front (with_token token read) ≡ with_tokens (front ++ token ∷ []) read
push_token front token None = refl
push_token front token (Some tokens) = ap (λ (tokens : List Token). Some tokens) (sym (append_assoc front (token ∷ []) tokens))

-- with the tokens so far, what is left from a place on gives those of the text
abbrev pub Tokenizes : Text → ℕ → List Token → Type 0
Tokenizes text at front = (n : ℕ) × (length text - at ≤ n) × (with_tokens front (tokenize n (drop at text)) ≡ tokens_of text)

nil_front : (read : Option (List Token)) → with_tokens [] read ≡ read
nil_front None = refl
nil_front (Some tokens) = refl

pub cuts_first : (text : Text) → Tokenizes text 0 []
cuts_first text = (length text, omega arith, nil_front (tokens_of text))

-- how the text is tokenized where a character stands
tokenized_blank : (n : ℕ) (text : Text) → tokenize (suc n) (32 ∷ text) ≡ tokenize n text
unfolding tokenize
tokenized_blank n text = refl

tokenized_token : (n c : ℕ) (text rest : Text) (token : Token) → c ≢ 32 → token_at (c ∷ text) ≡ Some (token, rest) → tokenize (suc n) (c ∷ text) ≡ with_token token (tokenize n rest)
unfolding tokenize
tokenized_token n c text rest token other read = rw (ne_eqb c 32 other) (rw read refl)

tokenized_refused : (n c : ℕ) (text : Text) → c ≢ 32 → token_at (c ∷ text) ≡ None → tokenize n (c ∷ text) ≡ None
unfolding tokenize
tokenized_refused zero c text other read = refl
tokenized_refused (suc n) c text other read = rw (ne_eqb c 32 other) (rw read refl)

tokenized_nil : (n : ℕ) → tokenize n [] ≡ Some []
unfolding tokenize
tokenized_nil zero = refl
tokenized_nil (suc n) = refl

at_place : (text : Text) (at : ℕ) → at < length text → drop at text ≡ get_or text at 0 ∷ drop (at + 1) text
at_place text at within = rw add-one (drop-cons text at 0 within)

blank_from : (n : ℕ) (text : Text) (at : ℕ) (front : List Token) → length text - at ≤ n → at < length text → get_or text at 0 ≡ 32 → with_tokens front (tokenize n (drop at text)) ≡ tokens_of text → Tokenizes text (at + 1) front
blank_from zero text at front bound within blank told = absurd (omega arith)
blank_from (suc n) text at front bound within blank told =
    let here : drop at text ≡ 32 ∷ drop (at + 1) text = at_place text at within ∙ ap (λ (c : ℕ). c ∷ drop (at + 1) text) blank in
    (n, omega arith, ap (with_tokens front) (sym (ap (tokenize (suc n)) here ∙ tokenized_blank n (drop (at + 1) text))) ∙ told)

pub cuts_blank : (text : Text) (at : ℕ) (front : List Token) → Tokenizes text at front → at < length text → get_or text at 0 ≡ 32 → Tokenizes text (at + 1) front
cuts_blank text at front h within blank = blank_from h.0 text at front h.1 within blank h.2

token_from : (n : ℕ) (text : Text) (at len : ℕ) (front : List Token) (token : Token) → length text - at ≤ n → at < length text → get_or text at 0 ≢ 32
    → token_at (drop at text) ≡ Some (token, drop len (drop at text)) → 0 < len → with_tokens front (tokenize n (drop at text)) ≡ tokens_of text → Tokenizes text (at + len) (front ++ token ∷ [])
token_from zero text at len front token bound within other read some told = absurd (omega arith)
token_from (suc n) text at len front token bound within other read some told =
    let here = at_place text at within in
    let rest : drop len (drop at text) ≡ drop (at + len) text = drop-drop len at text in
    let found : token_at (get_or text at 0 ∷ drop (at + 1) text) ≡ Some (token, drop (at + len) text) = ap token_at (sym here) ∙ read ∙ ap (λ (rest : Text). Some (token, rest)) rest in (
      n,
      omega arith,
      sym (push_token front token (tokenize n (drop (at + len) text)))
          ∙ ap (with_tokens front) (sym (ap (tokenize (suc n)) here ∙ tokenized_token n (get_or text at 0) (drop (at + 1) text) (drop (at + len) text) token other found))
          ∙ told,
    )

pub cuts_token : (text : Text) (at len : ℕ) (front : List Token) (token : Token) → Tokenizes text at front → at < length text → get_or text at 0 ≢ 32
    → token_at (drop at text) ≡ Some (token, drop len (drop at text)) → 0 < len → Tokenizes text (at + len) (front ++ token ∷ [])
cuts_token text at len front token h within other read some = token_from h.0 text at len front token h.1 within other read some h.2

pub cuts_refused : (text : Text) (at : ℕ) (front : List Token) → Tokenizes text at front → at < length text → get_or text at 0 ≢ 32 → token_at (drop at text) ≡ None → tokens_of text ≡ None
cuts_refused text at front h within other read =
    let here = at_place text at within in
    sym h.2 ∙ ap (with_tokens front) (ap (tokenize h.0) here ∙ tokenized_refused h.0 (get_or text at 0) (drop (at + 1) text) other (ap token_at (sym here) ∙ read))

pub cuts_end : (text : Text) (at : ℕ) (front : List Token) → Tokenizes text at front → length text ≤ at → tokens_of text ≡ Some front
cuts_end text at front h past =
    sym h.2 ∙ ap (with_tokens front) (ap (tokenize h.0) (drop_all at text past) ∙ tokenized_nil h.0) ∙ ap (λ (tokens : List Token). Some tokens) (append-nil front)

-- a text in which a token is refused, or for which memory ran out
pub makes_refused : {X : Type 0} (seen : X → List Token) (text : Text) (at : ℕ) (front : List Token) (stop : Stop) → Tokenizes text at front → at < length text → get_or text at 0 ≢ 32
    → FindsOrStops (token_at (drop at text)) (drop at text) (Err stop) → Makes seen (tokens_of text) (Err stop)
makes_refused seen text at front NoFormula h within other read = cuts_refused text at front h within other read
makes_refused seen text at front Memory h within other read = tt
