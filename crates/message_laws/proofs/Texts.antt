-- Tests that hold of each byte of a text, and the words of a text.
use Rattle.std.proofs.Common.{◌≡◌, ℕ, ◌<◌, Bool, true, false, not, ltb, cond, List, [], ◌∷◌, ◌++◌, length, Some, arith, refl, sym, ap, subst}
use Rattle.std.proofs.lemmas.Bool.{and_parts, ne_eqb}
use Rattle.std.proofs.lemmas.Bool.Decides.{nat_tests}
use Rattle.std.proofs.lemmas.List.Elements.{All-nil, All-cons}
use Rattle.std.proofs.lemmas.List.Folds.{list_all-append}
use Rattle.std.proofs.lemmas.List.Splits.{slice_split_none, slice_split_at}
use Rattle.std.proofs.lemmas.Str.{IsUtf8-from_ascii}
use Rattle.std.proofs.lemmas.Str.Ascii.{IsAscii-nil, IsAscii-cons}
use Rattle.std.specs.List.{list_all, All, AllByRecursion, filter, find}
use Rattle.std.specs.Str.{IsUtf8, IsAscii}
use Rattle.cool_words.specs.Words.{is_blank, is_filled, words}

-- no byte is a blank
abbrev pub IsClean : List ℕ → Type 0
IsClean text = list_all (λ b. not (is_blank b)) text ≡ true

pub weaker : (p q : ℕ → Bool) → ((b : ℕ) → p b ≡ true → q b ≡ true) → (xs : List ℕ) → list_all p xs ≡ true → list_all q xs ≡ true
weaker p q h [] e = refl
weaker p q h (x ∷ xs) e =
    let parts = and_parts (p x) (list_all p xs) e in
    rw (h x parts.0, weaker p q h xs parts.1) refl

not_true : (b : Bool) → not b ≡ true → b ≡ false
not_true true h = sym h
not_true false h = refl

-- none of the elements passes
pub none_passes : {X : Type 0} (p : X → Bool) (xs : List X) → list_all (λ x. not (p x)) xs ≡ true → All (λ x. p x ≡ false) xs
none_passes p [] h = All-nil (λ x. p x ≡ false)
none_passes p (x ∷ xs) h =
    let parts = and_parts (not (p x)) (list_all (λ y. not (p y)) xs) h in
    All-cons (λ y. p y ≡ false) x xs (not_true (p x) parts.0) (none_passes p xs parts.1)

pub all_join : (p : ℕ → Bool) (xs ys : List ℕ) → list_all p xs ≡ true → list_all p ys ≡ true → list_all p (xs ++ ys) ≡ true
all_join p xs ys h k = rw (list_all-append p xs ys, h, k) refl

filled : (w : List ℕ) → 0 < length w → is_filled w ≡ true
filled w h = ap not (ne_eqb (length w) 0 (λ z. omega arith))

-- the words of one word
pub words_end : (w : List ℕ) → IsClean w → 0 < length w → words w ≡ w ∷ []
unfolding words
words_end w clean long = rw (slice_split_none is_blank w (none_passes is_blank w clean), filled w long) refl

-- the words of a word with a blank behind it
pub words_step : (w rest : List ℕ) → IsClean w → 0 < length w → words (w ++ (32 ∷ rest)) ≡ w ∷ words rest
unfolding words
words_step w rest clean long = rw (slice_split_at is_blank w 32 rest (none_passes is_blank w clean) refl, filled w long) refl

-- bytes below 128 are UTF-8
ascii_bytes : (xs : List ℕ) → list_all (λ b. ltb b 128) xs ≡ true → IsAscii xs
ascii_bytes [] h = IsAscii-nil
ascii_bytes (x ∷ xs) h =
    let parts = and_parts (ltb x 128) (list_all (λ b. ltb b 128) xs) h in
    IsAscii-cons x xs (grind (arith, nat_tests, parts.0)) (ascii_bytes xs parts.1)

pub utf8_from_low : (xs : List ℕ) → list_all (λ b. ltb b 128) xs ≡ true → IsUtf8 xs
utf8_from_low xs h = IsUtf8-from_ascii xs (ascii_bytes xs h)

-- what holds of all holds of one that is found
pub found : {X : Type 0} (P : X → Type 0) (p : X → Bool) (xs : List X) (x : X) → AllByRecursion P xs → find p xs ≡ Some x → P x
found P p [] x all h = absurd (cc)
found P p (y ∷ ys) x all h =
    elim (p y) as (λ b. cond b (Some y) (find p ys) ≡ Some x → P x) [
      | true ↦ λ e. let same : y ≡ x = cc in subst P same all.0
      | false ↦ λ e. found P p ys x all.1 e
    ] h

pub kept : {X : Type 0} (P : X → Type 0) (p : X → Bool) (xs : List X) → AllByRecursion P xs → AllByRecursion P (filter p xs)
kept P p [] all = tt
kept P p (x ∷ xs) all =
    elim (p x) as (λ b. AllByRecursion P (cond b (x ∷ filter p xs) (filter p xs))) [
      | true ↦ (all.0, kept P p xs all.1)
      | false ↦ kept P p xs all.1
    ]
