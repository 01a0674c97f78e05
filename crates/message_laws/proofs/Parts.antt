-- The words of a text are clean and UTF-8, and so are the values in them.
use Rattle.std.proofs.Common.{◌≡◌, ℕ, suc, ◌+◌, ◌<◌, true, false, not, eqb, cond, List, [], ◌∷◌, ◌++◌, length, take, drop, Option, Some, None, arith, refl, sym, ap, ◌∙◌, subst, length-append, get_or, lit<}
use Rattle.std.proofs.lemmas.Bool.{and_parts, eqb-true}
use Rattle.std.proofs.lemmas.Str.{IsUtf8-take, IsUtf8-drop, IsCharBoundary-before_ascii, IsCharBoundary-after_ascii}
use Rattle.std.proofs.lemmas.List.Splits.{join_with_byte-slice_split}
use Rattle.std.specs.List.{list_all, AllByRecursion, slice_split, onto_first, join_with_byte}
use Rattle.std.specs.Option.{option_map}
use Rattle.std.specs.Str.{IsUtf8}
use Rattle.cool_words.specs.Words.{is_blank, is_filled, words, cut_at, with_front}
use Rattle.message_laws.proofs.Texts.{IsClean, kept}

-- a text with an ASCII byte in its midst is UTF-8 on both sides
take_front : (xs ys : List ℕ) → take (length xs) (xs ++ ys) ≡ xs
take_front [] ys = refl
take_front (x ∷ xs) ys = ap (λ zs. x ∷ zs) (take_front xs ys)

drop_front : (xs ys : List ℕ) → drop (length xs) (xs ++ ys) ≡ ys
drop_front [] ys = refl
drop_front (x ∷ xs) ys = drop_front xs ys

drop_past : (xs : List ℕ) (c : ℕ) (ys : List ℕ) → drop (length xs + 1) (xs ++ (c ∷ ys)) ≡ ys
drop_past [] c ys = refl
drop_past (x ∷ xs) c ys =
    let e : length (x ∷ xs) + 1 ≡ suc (length xs + 1) = omega arith in
    ap (λ n. drop n (x ∷ (xs ++ (c ∷ ys)))) e ∙ drop_past xs c ys

byte_between : (xs : List ℕ) (c : ℕ) (ys : List ℕ) → get_or (xs ++ (c ∷ ys)) (length xs) 0 ≡ c
byte_between [] c ys = refl
byte_between (x ∷ xs) c ys = byte_between xs c ys

pub utf8_before : (xs : List ℕ) (c : ℕ) (ys : List ℕ) → c < 128 → IsUtf8 (xs ++ (c ∷ ys)) → IsUtf8 xs
utf8_before xs c ys low h =
    let inside : length xs < length (xs ++ (c ∷ ys)) = omega (arith, length-append xs (c ∷ ys)) in
    let small : get_or (xs ++ (c ∷ ys)) (length xs) 0 < 128 = omega (arith, byte_between xs c ys) in
    subst IsUtf8 (take_front xs (c ∷ ys)) (IsUtf8-take (xs ++ (c ∷ ys)) (length xs) h (IsCharBoundary-before_ascii (xs ++ (c ∷ ys)) (length xs) inside small))

pub utf8_behind : (xs : List ℕ) (c : ℕ) (ys : List ℕ) → c < 128 → IsUtf8 (xs ++ (c ∷ ys)) → IsUtf8 ys
utf8_behind xs c ys low h =
    let inside : length xs < length (xs ++ (c ∷ ys)) = omega (arith, length-append xs (c ∷ ys)) in
    let small : get_or (xs ++ (c ∷ ys)) (length xs) 0 < 128 = omega (arith, byte_between xs c ys) in
    subst IsUtf8 (drop_past xs c ys) (IsUtf8-drop (xs ++ (c ∷ ys)) (length xs + 1) h (IsCharBoundary-after_ascii (xs ++ (c ∷ ys)) (length xs) h inside small))

-- a text that is good is clean and UTF-8
pub record IsSound (text : List ℕ) : Type 0 where
  pub clean : IsClean text
  pub utf8 : IsUtf8 text

utf8_parts : (parts : List (List ℕ)) → IsUtf8 (join_with_byte 32 parts) → AllByRecursion IsUtf8 parts
utf8_parts [] h = tt
utf8_parts (x ∷ []) h = (h, tt)
utf8_parts (x ∷ y ∷ xs) h = (utf8_before x 32 (join_with_byte 32 (y ∷ xs)) (lit< tt) h, utf8_parts (y ∷ xs) (utf8_behind x 32 (join_with_byte 32 (y ∷ xs)) (lit< tt) h))

onto_clean : (x : ℕ) (parts : List (List ℕ)) → is_blank x ≡ false → AllByRecursion IsClean parts → AllByRecursion IsClean (onto_first x parts)
onto_clean x [] h all = (rw h refl, tt)
onto_clean x (part ∷ parts) h all = (rw (h, all.0) refl, all.1)

clean_parts : (text : List ℕ) → AllByRecursion IsClean (slice_split is_blank text)
clean_parts [] = (refl, tt)
clean_parts (x ∷ xs) =
    elim (is_blank x) as (λ b. is_blank x ≡ b → AllByRecursion IsClean (cond b ([] ∷ slice_split is_blank xs) (onto_first x (slice_split is_blank xs)))) [
      | true ↦ λ e. (refl, clean_parts xs)
      | false ↦ λ e. onto_clean x (slice_split is_blank xs) e (clean_parts xs)
    ] refl

both : (parts : List (List ℕ)) → AllByRecursion IsClean parts → AllByRecursion IsUtf8 parts → AllByRecursion IsSound parts
both [] a b = tt
both (x ∷ xs) a b = (record { clean = a.0; utf8 = b.0 }, both xs a.1 b.1)

pub sound_words : (text : List ℕ) → IsUtf8 text → AllByRecursion IsSound (words text)
unfolding words
sound_words text h =
    let whole = subst IsUtf8 (sym (join_with_byte-slice_split 32 text)) h in
    kept IsSound is_filled (slice_split is_blank text) (both (slice_split is_blank text) (clean_parts text) (utf8_parts (slice_split is_blank text) whole))

sides : Option (List ℕ × List ℕ) → List ℕ × List ℕ
sides None = ([], [])
sides (Some p) = p

joined_from : (c : ℕ) (text : List ℕ) (r : Option (List ℕ × List ℕ)) (a b : List ℕ) → text ≡ (sides r).0 ++ (c ∷ (sides r).1) → r ≡ Some (a, b) → text ≡ a ++ (c ∷ b)
unfolding sides
joined_from c text r a b h e = h ∙ ap (λ (o : Option (List ℕ × List ℕ)). (sides o).0 ++ (c ∷ (sides o).1)) e

behind_byte : (c x : ℕ) (xs a b : List ℕ) (r : Option (List ℕ × List ℕ)) → ((p : List ℕ × List ℕ) → r ≡ Some p → xs ≡ p.0 ++ (c ∷ p.1)) → option_map (with_front x) r ≡ Some (a, b) → x ∷ xs ≡ a ++ (c ∷ b)
unfolding sides
behind_byte c x xs a b None again e = absurd (cc)
behind_byte c x xs a b (Some p) again e = joined_from c (x ∷ xs) (Some (with_front x p)) a b (ap (λ zs. x ∷ zs) (again p refl)) e

-- a cut takes out one byte
pub cut_joins : (c : ℕ) (text a b : List ℕ) → cut_at c text ≡ Some (a, b) → text ≡ a ++ (c ∷ b)
unfolding sides
cut_joins c [] a b h = absurd (cc)
cut_joins c (x ∷ xs) a b h =
    elim (eqb x c) as (λ t. eqb x c ≡ t → cond t (Some ([], xs)) (option_map (with_front x) (cut_at c xs)) ≡ Some (a, b) → x ∷ xs ≡ a ++ (c ∷ b)) [
      | true ↦ λ t e. joined_from c (x ∷ xs) (Some ([], xs)) a b (ap (λ y. y ∷ xs) (eqb-true x c t)) e
      | false ↦ λ t e. behind_byte c x xs a b (cut_at c xs) (λ p q. cut_joins c xs p.0 p.1 q) e
    ] refl h

clean_behind : (xs ys : List ℕ) → IsClean (xs ++ ys) → IsClean ys
clean_behind [] ys h = h
clean_behind (x ∷ xs) ys h = clean_behind xs ys (and_parts (not (is_blank x)) (list_all (λ b. not (is_blank b)) (xs ++ ys)) h).1

-- the value in a sound word is sound
pub sound_value : (text a b : List ℕ) → cut_at 61 text ≡ Some (a, b) → IsSound text → IsSound b
sound_value text a b h sound =
    let same = cut_joins 61 text a b h in
    record {
      clean = clean_behind (61 ∷ []) b (clean_behind a (61 ∷ b) (subst IsClean same sound.clean));
      utf8 = utf8_behind a 61 b (lit< tt) (subst IsUtf8 same sound.utf8);
    }
