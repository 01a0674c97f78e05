-- A cut at a byte, by the place of the first such byte.
use Rattle.std.proofs.Common.{◌≡◌, ℕ, suc, ◌+◌, ◌-◌, ◌<◌, List, [], ◌∷◌, length, take, drop, length-drop, Option, Some, None, eqb, ltb, lt-ltb, le-ltb, cond, not, true, false, arith, refl, sym, ap, inl, inr, Bor}
use Rattle.std.specs.Option.{option_map, MatchOption}
use Rattle.std.specs.List.{position, position_or_len, before_first, after_first}
use Rattle.std.proofs.lemmas.Bool.{cases_lt}
use Rattle.std.proofs.lemmas.List.{take_all}
use Rattle.std.proofs.lemmas.List.Sums.{prefix_len-le-length}
use Rattle.cool_words.specs.Words.{cut_at, with_front}

none_is_not_some : (n : ℕ) → None ≡ Some n → ⊥
none_is_not_some n h = cc

some_same : (m n : ℕ) → Some m ≡ Some n → m ≡ n
some_same m n h = cc

pub cut_none : (c : ℕ) (bs : List ℕ) → position_or_len (λ b. eqb b c) bs ≡ length bs → cut_at c bs ≡ None
cut_none c [] h = refl
cut_none c (b ∷ bs) h =
    elim (eqb b c) as (λ t. cond (not t) (1 + position_or_len (λ b. eqb b c) bs) 0 ≡ length (b ∷ bs) → cond t (Some ([], bs)) (option_map (with_front b) (cut_at c bs)) ≡ None) [
      | true ↦ λ e. absurd (omega arith)
      | false ↦ λ e. ap (option_map (with_front b)) (cut_none c bs (omega arith))
    ] h

one_and_one : (n : ℕ) → 1 + n + 1 ≡ suc (n + 1)
one_and_one n = omega arith

one_and : (n : ℕ) → 1 + n ≡ suc n
one_and n = omega arith

later : (c b : ℕ) (bs : List ℕ) → cut_at c bs ≡ Some (before_first (λ b. eqb b c) bs, after_first (λ b. eqb b c) bs) → option_map (with_front b) (cut_at c bs) ≡ Some (take (1 + position_or_len (λ b. eqb b c) bs) (b ∷ bs), drop (1 + position_or_len (λ b. eqb b c) bs + 1) (b ∷ bs))
later c b bs h = rw (h, one_and_one, one_and) refl

pub cut_some : (c : ℕ) (bs : List ℕ) → position_or_len (λ b. eqb b c) bs < length bs → cut_at c bs ≡ Some (before_first (λ b. eqb b c) bs, after_first (λ b. eqb b c) bs)
cut_some c [] h = absurd (omega arith)
cut_some c (b ∷ bs) h =
    elim (eqb b c) as (λ t. cond (not t) (1 + position_or_len (λ b. eqb b c) bs) 0 < length (b ∷ bs) → cond t (Some ([], bs)) (option_map (with_front b) (cut_at c bs)) ≡ Some (take (cond (not t) (1 + position_or_len (λ b. eqb b c) bs) 0) (b ∷ bs), drop (cond (not t) (1 + position_or_len (λ b. eqb b c) bs) 0 + 1) (b ∷ bs))) [
      | true ↦ λ e. refl
      | false ↦ λ e. later c b bs (cut_some c bs (omega arith))
    ] h

-- the two sides that a search for the byte gives
pub cut_from_search : (c : ℕ) (bs : List ℕ) (r : Option (Bor (List ℕ) × Bor (List ℕ))) → MatchOption r (position_or_len (λ b. eqb b c) bs ≡ length bs) (λ x. (position_or_len (λ b. eqb b c) bs < length bs) × (x.0.now ≡ before_first (λ b. eqb b c) bs) × (x.1.now ≡ after_first (λ b. eqb b c) bs)) → option_map (λ sides. (sides.0.now, sides.1.now)) r ≡ cut_at c bs
cut_from_search c bs None h = rw (cut_none c bs h) refl
cut_from_search c bs (Some x) h = rw (cut_some c bs h.0, h.1, h.2) refl

-- the same from a place
pub cut_from_no_place : (c : ℕ) (bs : List ℕ) → None ≡ position (λ b. eqb b c) bs → None ≡ cut_at c bs
cut_from_no_place c bs h =
    elim (cases_lt (position_or_len (λ b. eqb b c) bs) (length bs)) [
      | inl less ↦ let e : ltb (position_or_len (λ b. eqb b c) bs) (length bs) ≡ true = lt-ltb _ _ less in absurd (none_is_not_some _ (rw e at h))
      | inr more ↦ sym (cut_none c bs (omega (arith, more, prefix_len-le-length (λ b. not (eqb b c)) bs)))
    ]

pub cut_from_place : (c : ℕ) (bs : List ℕ) (i : ℕ) → Some i ≡ position (λ b. eqb b c) bs → Some (take i bs, take (length bs - (i + 1)) (drop (i + 1) bs)) ≡ cut_at c bs
cut_from_place c bs i h =
    elim (cases_lt (position_or_len (λ b. eqb b c) bs) (length bs)) [
      | inl less ↦
          let e : ltb (position_or_len (λ b. eqb b c) bs) (length bs) ≡ true = lt-ltb _ _ less in
          let same : i ≡ position_or_len (λ b. eqb b c) bs = some_same _ _ (rw e at h) in
          rw (cut_some c bs less, same, take_all (length bs - (position_or_len (λ b. eqb b c) bs + 1)) (drop (position_or_len (λ b. eqb b c) bs + 1) bs) (omega (arith, length-drop (position_or_len (λ b. eqb b c) bs + 1) bs))) refl
      | inr more ↦
          let e : ltb (position_or_len (λ b. eqb b c) bs) (length bs) ≡ false = le-ltb _ _ more in
          absurd (none_is_not_some _ (sym (rw e at h)))
    ]
