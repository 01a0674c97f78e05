-- Texts in quotes, piece by piece.
use Rattle.std.proofs.Common.{◌≡◌, ◌≢◌, ℕ, suc, ◌<◌, ◌-◌, [], ◌∷◌, ◌++◌, length, get_or, drop, refl, sym, ◌∙◌, ap, append_assoc, append-nil, length-append, arith}
use Rattle.std.specs.Prelude.{Option, Some, None}
use Rattle.std.proofs.lemmas.Bool.{ne_eqb}
use Rattle.std.proofs.Math.Seq.{drop-append_seam}
use Rattle.sheet_formula.specs.Tokens.{Text, quoted, with_front}

-- no quote stands in the text
abbrev pub HasNoQuote : Text → Type 0
HasNoQuote text = (i : ℕ) → i < length text → get_or text i 0 ≢ 34

front_nil : (read : Option (Text × Text)) → with_front [] read ≡ read
front_nil None = refl
front_nil (Some found) = refl

front_front : (a b : Text) (read : Option (Text × Text)) → with_front a (with_front b read) ≡ with_front (a ++ b) read
front_front a b None = refl
front_front a b (Some found) = ap (λ (text : Text). Some (text, found.1)) (sym (append_assoc a b found.0))

no_quote_first : (c : ℕ) (text : Text) → HasNoQuote (c ∷ text) → c ≢ 34
no_quote_first c text h = h 0 (omega arith)

no_quote_rest : (c : ℕ) (text : Text) → HasNoQuote (c ∷ text) → HasNoQuote text
no_quote_rest c text h i within = h (suc i) (omega arith)

-- a character that is no quote, in front of a text that isn't empty
quoted_other : (c d : ℕ) (text : Text) → c ≢ 34 → quoted (c ∷ (d ∷ text)) ≡ with_front (c ∷ []) (quoted (d ∷ text))
quoted_other c d text h = rw (ne_eqb c 34 h) refl

pub quoted_piece : (piece behind : Text) → HasNoQuote piece → quoted (piece ++ 34 ∷ behind) ≡ with_front piece (quoted (34 ∷ behind))
quoted_piece [] behind h = sym (front_nil (quoted (34 ∷ behind)))
quoted_piece (c ∷ []) behind h = quoted_other c 34 behind (no_quote_first c [] h)
quoted_piece (c ∷ (d ∷ piece)) behind h =
    quoted_other c d (piece ++ 34 ∷ behind) (no_quote_first c (d ∷ piece) h)
    ∙ ap (with_front (c ∷ [])) (quoted_piece (d ∷ piece) behind (no_quote_rest c (d ∷ piece) h))
    ∙ front_front (c ∷ []) (d ∷ piece) (quoted (34 ∷ behind))

pub quoted_none : (text : Text) → HasNoQuote text → quoted text ≡ None
quoted_none [] h = refl
quoted_none (c ∷ []) h = rw (ne_eqb c 34 (no_quote_first c [] h)) refl
quoted_none (c ∷ (d ∷ text)) h =
    quoted_other c d text (no_quote_first c (d ∷ text) h)
    ∙ ap (with_front (c ∷ [])) (quoted_none (d ∷ text) (no_quote_rest c (d ∷ text) h))

quoted_closed : (behind : Text) → ((rest : Text) → behind ≢ 34 ∷ rest) → quoted (34 ∷ behind) ≡ Some ([], behind)
quoted_closed [] h = refl
quoted_closed (d ∷ behind) h =
    let other : d ≢ 34 = λ e. h behind (ap (λ (d : ℕ). d ∷ behind) e) in
    rw (ne_eqb d 34 other) refl

-- a piece, and a quote that is written twice
pub quoted_more : (front text piece behind rest : Text) → text ≡ piece ++ 34 ∷ behind → HasNoQuote piece → behind ≡ 34 ∷ rest
    → with_front ((front ++ piece) ++ 34 ∷ []) (quoted rest) ≡ with_front front (quoted text)
quoted_more front text piece behind rest split none twice =
    sym (ap (λ (text : Text). with_front front (quoted text)) (split ∙ ap (λ (behind : Text). piece ++ 34 ∷ behind) twice)
    ∙ ap (with_front front) (quoted_piece piece (34 ∷ rest) none)
    ∙ front_front front piece (quoted (34 ∷ (34 ∷ rest)))
    ∙ front_front (front ++ piece) (34 ∷ []) (quoted rest))

-- a piece, and the quote that closes
pub quoted_end : (front text piece behind : Text) → text ≡ piece ++ 34 ∷ behind → HasNoQuote piece → ((rest : Text) → behind ≢ 34 ∷ rest)
    → with_front front (quoted text) ≡ Some (front ++ piece, behind)
quoted_end front text piece behind split none closed =
    ap (λ (text : Text). with_front front (quoted text)) split
    ∙ ap (with_front front) (quoted_piece piece behind none)
    ∙ front_front front piece (quoted (34 ∷ behind))
    ∙ ap (with_front (front ++ piece)) (quoted_closed behind closed)
    ∙ ap (λ (text : Text). Some (text, behind)) (append-nil (front ++ piece))

-- what is behind a piece of a text whose front was taken
pub behind_piece : (taken text rest piece behind : Text) → text ≡ taken ++ rest → rest ≡ piece ++ 34 ∷ behind → text ≡ ((taken ++ piece) ++ 34 ∷ []) ++ behind
behind_piece taken text rest piece behind whole split =
    whole ∙ ap (λ (rest : Text). taken ++ rest) split ∙ sym (append_assoc taken piece (34 ∷ behind)) ∙ sym (append_assoc (taken ++ piece) (34 ∷ []) behind)

-- a text behind another is what is left when as many characters are dropped as it is shorter
pub dropped : (taken text behind : Text) → text ≡ taken ++ behind → behind ≡ drop (length text - length behind) text
dropped taken text behind whole =
    let count : length text - length behind ≡ length taken = omega (arith, ap length whole, length-append taken behind) in
    rw count (rw whole (sym (drop-append_seam taken behind)))
