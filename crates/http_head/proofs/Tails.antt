-- What stands behind the first blank, as more bytes come.
use Rattle.std.proofs.Common.{◌≡◌, ℕ, ◌+◌, ◌≤◌, Bool, true, false, not, ◌&&◌, List, [], ◌∷◌, ◌++◌, ◌⊎◌, inl, inr, refl, sym, ap, ◌∙◌, arith}
use Rattle.std.specs.Prelude.{◌==◌, if◌then◌else◌}
use Rattle.std.specs.List.{list_all}
use Rattle.std.specs.Char.{is_ascii_graphic}
use Rattle.std.proofs.lemmas.Bool.{and_parts}
use Rattle.std.proofs.lemmas.Grind.{common_steps}
use Rattle.http_head.specs.Corners.{behind_blank, starts_plain, ends_in}

-- no blank
abbrev pub no_blank : ℕ → Bool
no_blank b = not (b == 32)

-- no end of a line
abbrev pub no_end : ℕ → Bool
no_end b = not (b == 10)

pub behind_blank-at : (a b : List ℕ) → list_all no_blank a ≡ true → behind_blank (a ++ 32 ∷ b) ≡ b
behind_blank-at [] b none = refl
behind_blank-at (x ∷ a) b none =
    let parts = and_parts (no_blank x) (list_all no_blank a) none in
    let later = behind_blank-at a b parts.1 in
    grind (arith, common_steps)

pub behind_blank-more : (a b : List ℕ) → (c : List ℕ) × (behind_blank (a ++ b) ≡ behind_blank a ++ c)
behind_blank-more [] b = (behind_blank b, refl)
behind_blank-more (x ∷ a) b = by (x == 32) (behind_blank-more a b)
  where
    by : (t : Bool) → ((c : List ℕ) × (behind_blank (a ++ b) ≡ behind_blank a ++ c)) → (c : List ℕ) × ((if t then a ++ b else behind_blank (a ++ b)) ≡ (if t then a else behind_blank a) ++ c)
    by true later = (b, refl)
    by false later = later

pub starts_plain-front : (a b : List ℕ) → starts_plain (a ++ b) ≡ true → starts_plain a ≡ true
starts_plain-front [] b plain = refl
starts_plain-front (x ∷ a) b plain =
    by (x == 32) (is_ascii_graphic x) plain (λ more. starts_plain-front a b more)
  where
    by : (t u : Bool) → (if t then true else (u && starts_plain (a ++ b))) ≡ true → (starts_plain (a ++ b) ≡ true → starts_plain a ≡ true) → (if t then true else (u && starts_plain a)) ≡ true
    by true u whole later = refl
    by false true whole later = later whole
    by false false whole later = whole

-- one more byte before the blank
one_more : (t u v w : Bool) → not t ≡ true → v ≡ w → (if t then true else (u && v)) ≡ (u && w)
one_more true u v w other e = cc
one_more false u v w other e = ap (λ x. u && x) e

-- a word without a blank
pub starts_plain-word : (a b : List ℕ) → list_all no_blank a ≡ true → starts_plain (a ++ 32 ∷ b) ≡ list_all is_ascii_graphic a
starts_plain-word [] b none = refl
starts_plain-word (x ∷ a) b none =
    let parts = and_parts (no_blank x) (list_all no_blank a) none in
    one_more (x == 32) (is_ascii_graphic x) _ _ parts.0 (starts_plain-word a b parts.1)

-- a word at the end
pub starts_plain-last : (a : List ℕ) → list_all no_blank a ≡ true → starts_plain a ≡ list_all is_ascii_graphic a
starts_plain-last [] none = refl
starts_plain-last (x ∷ a) none =
    let parts = and_parts (no_blank x) (list_all no_blank a) none in
    one_more (x == 32) (is_ascii_graphic x) _ _ parts.0 (starts_plain-last a parts.1)

pub ends_in-append : (a b : List ℕ) → ends_in (a ++ b) ≡ ends_in a + ends_in b
ends_in-append [] b = omega arith
ends_in-append (x ∷ a) b = let later = ends_in-append a b in grind (arith, common_steps)

pub ends_in-none : (a : List ℕ) → list_all no_end a ≡ true → ends_in a ≡ 0
ends_in-none [] none = refl
ends_in-none (x ∷ a) none =
    let parts = and_parts (no_end x) (list_all no_end a) none in
    let later = ends_in-none a parts.1 in
    grind (arith, common_steps)

-- as more bytes come, no fewer lines end
pub ends_behind-more : (a b : List ℕ) → ends_in (behind_blank a) ≤ ends_in (behind_blank (a ++ b))
ends_behind-more a b =
    let more = behind_blank-more a b in
    let e : ends_in (behind_blank (a ++ b)) ≡ ends_in (behind_blank a) + ends_in more.0 = ap ends_in more.1 ∙ ends_in-append (behind_blank a) more.0 in
    omega arith

-- as more bytes come, the target stays as it was
pub plain_behind-front : (a b : List ℕ) → starts_plain (behind_blank (a ++ b)) ≡ true → starts_plain (behind_blank a) ≡ true
plain_behind-front a b plain =
    let more = behind_blank-more a b in
    starts_plain-front (behind_blank a) more.0 (ap starts_plain (sym more.1) ∙ plain)

-- bytes without a blank end no line behind it, and with one all that follow come behind it
pub ends_behind-both : (a b : List ℕ)
    → (ends_in (behind_blank a) ≡ 0) ⊎ (behind_blank (a ++ b) ≡ behind_blank a ++ b)
ends_behind-both [] b = inl refl
ends_behind-both (x ∷ a) b = by (x == 32) (ends_behind-both a b)
  where
    by : (t : Bool)
        → ((ends_in (behind_blank a) ≡ 0) ⊎ (behind_blank (a ++ b) ≡ behind_blank a ++ b))
        → (ends_in (if t then a else behind_blank a) ≡ 0)
        ⊎ ((if t then a ++ b else behind_blank (a ++ b)) ≡ (if t then a else behind_blank a) ++ b)
    by true later = inr refl
    by false later = later
