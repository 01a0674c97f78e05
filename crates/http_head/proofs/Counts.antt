-- How many lines end in the front of a head, whose first line and header lines have one end each.
use Rattle.std.proofs.Common.{◌≡◌, ◌≢◌, ℕ, ◌+◌, ◌≤◌, ◌<◌, Bool, true, false, not, List, [], ◌∷◌, ◌++◌, ◌⊎◌, inl, inr, refl, sym, ap, ◌∙◌, arith, length, take, drop, append_assoc}
use Rattle.std.specs.Prelude.{All, ◌==◌}
use Rattle.std.specs.List.{list_all, flat_map}
use Rattle.std.proofs.lemmas.Bool.{and_parts}
use Rattle.std.proofs.lemmas.Bool.Decides.{nat_tests}
use Rattle.std.proofs.lemmas.Grind.{common_steps, flat_map-append}
use Rattle.std.proofs.lemmas.List.{take-append-drop, length-take-le, append-nil}
use Rattle.std.proofs.lemmas.List.Sums.{list_all-from_AllPass}
use Rattle.std.proofs.lemmas.List.Elements.{All-head, All-tail, All-take}
use Rattle.httparse.specs.Grammar.{is_token_byte, is_value_byte, LineEnd, crlf, lf, print_end, Field, print_field, IsField}
use Rattle.http_head.specs.Corners.{behind_blank, ends_in}
use Rattle.http_head.proofs.Tails.{ends_in-append, ends_in-none, ends_behind-more, ends_behind-both}
use Rattle.http_head.proofs.Cuts.{two_cuts, last_of}

-- bytes of a class without this byte are other bytes
pub other_than : (p : ℕ → Bool) (c : ℕ) → p c ≡ false → (xs : List ℕ) → list_all p xs ≡ true → list_all (λ b. not (b == c)) xs ≡ true
other_than p c none [] all = refl
other_than p c none (x ∷ xs) all =
    let parts = and_parts (p x) (list_all p xs) all in
    let later = other_than p c none xs parts.1 in
    let here : x ≢ c = λ same. let e : p c ≡ true = ap p (sym same) ∙ parts.0 in cc in
    grind (arith, nat_tests, common_steps)

-- the lines of these fields
abbrev pub lines_of : List Field → List ℕ
lines_of fields = flat_map print_field fields

token_has_no_end : is_token_byte 10 ≡ false
unfolding is_token_byte
token_has_no_end = refl

pub ends_in-print_end : (e : LineEnd) → ends_in (print_end e) ≡ 1
ends_in-print_end crlf = refl
ends_in-print_end lf = refl

-- the name and the value of a field have no line end
field_text : (f : Field) → IsField f → ends_in (f.name ++ 58 ∷ f.raw) ≡ 0
field_text f is =
    let name = ends_in-none f.name (other_than is_token_byte 10 token_has_no_end f.name (list_all-from_AllPass is_token_byte f.name is.name.1)) in
    let raw = ends_in-none f.raw (other_than is_value_byte 10 refl f.raw (list_all-from_AllPass is_value_byte f.raw is.raw)) in
    let both = ends_in-append f.name (58 ∷ f.raw) in
    let colon : ends_in (58 ∷ f.raw) ≡ 0 + ends_in f.raw = ends_in-append (58 ∷ []) f.raw in
    omega arith

pub ends_in-field : (f : Field) → IsField f → ends_in (print_field f) ≡ 1
ends_in-field f is =
    let text = field_text f is in
    let end = ends_in-print_end f.end in
    let both = ends_in-append (f.name ++ 58 ∷ f.raw) (print_end f.end) in
    omega arith

pub ends_in-lines : (fields : List Field) → All IsField fields → ends_in (lines_of fields) ≡ length fields
ends_in-lines [] all = refl
ends_in-lines (f ∷ fields) all =
    let here = ends_in-field f (All-head IsField f fields all) in
    let later = ends_in-lines fields (All-tail IsField f fields all) in
    let both = ends_in-append (print_field f) (lines_of fields) in
    omega (arith, both, here, later)

-- a line end is a front and an LF
pub end_last : (e : LineEnd) → (front : List ℕ) × (print_end e ≡ front ++ 10 ∷ []) × (ends_in front ≡ 0)
end_last crlf = (13 ∷ [], refl, refl)
end_last lf = ([], refl, refl)

-- a section's last line end
pub section_last : (fields : List Field) (last : LineEnd) → All IsField fields
    → (front : List ℕ) × (lines_of fields ++ print_end last ≡ front ++ 10 ∷ []) × (ends_in front ≡ length fields)
section_last fields last all =
    let end = end_last last in
    let lines = ends_in-lines fields all in
    let both = ends_in-append (lines_of fields) end.0 in
    let none = end.2 in
    (lines_of fields ++ end.0, ap (λ t. lines_of fields ++ t) end.1 ∙ sym (append_assoc (lines_of fields) end.0 (10 ∷ [])), omega arith)

-- a field's last line end
field_last : (f : Field) → IsField f → (front : List ℕ) × (print_field f ≡ front ++ 10 ∷ []) × (ends_in front ≡ 0)
field_last f is =
    let end = end_last f.end in
    let text = field_text f is in
    let both = ends_in-append (f.name ++ 58 ∷ f.raw) end.0 in
    let none = end.2 in
    ((f.name ++ 58 ∷ f.raw) ++ end.0, ap (λ t. (f.name ++ 58 ∷ f.raw) ++ t) end.1 ∙ sym (append_assoc (f.name ++ 58 ∷ f.raw) end.0 (10 ∷ [])), omega arith)

-- the last line end of some lines
pub lines_last : (fields : List Field) → All IsField fields → 0 < length fields
    → (front : List ℕ) × (lines_of fields ≡ front ++ 10 ∷ []) × (ends_in front + 1 ≡ length fields)
lines_last [] all some = absurd (omega arith)
lines_last (f ∷ []) all some =
    let here = field_last f (All-head IsField f [] all) in
    let none = here.2 in
    (here.0, append-nil (print_field f) ∙ here.1, omega arith)
lines_last (f ∷ g ∷ fields) all some =
    let later = lines_last (g ∷ fields) (All-tail IsField f (g ∷ fields) all) (omega arith) in
    let here = ends_in-field f (All-head IsField f (g ∷ fields) all) in
    let both = ends_in-append (print_field f) later.0 in
    let count = later.2 in
    (print_field f ++ later.0, ap (λ t. print_field f ++ t) later.1 ∙ sym (append_assoc (print_field f) later.0 (10 ∷ [])), omega (arith, both, here, count))

pub snoc_some : (a : List ℕ) (x : ℕ) → a ++ x ∷ [] ≡ [] → ⊥
snoc_some [] x e = cc
snoc_some (y ∷ a) x e = cc

-- two lists with one more item each
pub snoc_front : (a b : List ℕ) (x y : ℕ) → a ++ x ∷ [] ≡ b ++ y ∷ [] → a ≡ b
snoc_front [] [] x y e = refl
snoc_front [] (z ∷ b) x y e = absurd (snoc_some b y (let tail : [] ≡ b ++ y ∷ [] = cc in sym tail))
snoc_front (z ∷ a) [] x y e = absurd (snoc_some a x (let tail : a ++ x ∷ [] ≡ [] = cc in tail))
snoc_front (z ∷ a) (w ∷ b) x y e =
    let head : z ≡ w = cc in
    let tail : a ++ x ∷ [] ≡ b ++ y ∷ [] = cc in
    let rest = snoc_front a b x y tail in
    λ i. head i ∷ rest i

-- and the same last item
pub snoc_last : (a b : List ℕ) (x y : ℕ) → a ++ x ∷ [] ≡ b ++ y ∷ [] → x ≡ y
snoc_last [] [] x y e = cc
snoc_last [] (z ∷ b) x y e = absurd (snoc_some b y (let tail : [] ≡ b ++ y ∷ [] = cc in sym tail))
snoc_last (z ∷ a) [] x y e = absurd (snoc_some a x (let tail : a ++ x ∷ [] ≡ [] = cc in tail))
snoc_last (z ∷ a) (w ∷ b) x y e =
    let tail : a ++ x ∷ [] ≡ b ++ y ∷ [] = cc in
    snoc_last a b x y tail

-- a last part that has no line end is no part of bytes that end in one
pub ends_in_last : (lines tail rest front text : List ℕ) → ends_in tail ≡ 0 → text ≡ front ++ 10 ∷ [] → lines ++ tail ≡ text ++ rest → (m : List ℕ) × (lines ≡ text ++ m)
ends_in_last lines tail rest front text none end is = elim (two_cuts lines tail text rest is) [
  | inl w ↦ (w.0, w.1)
  | inr w ↦ within w.0 w.1 w.2 (last_of w.0)
]
  where
    within : (m : List ℕ) → text ≡ lines ++ m → tail ≡ m ++ rest → ((m ≡ []) ⊎ ((k : List ℕ) × (x : ℕ) × (m ≡ k ++ x ∷ []))) → (m : List ℕ) × (lines ≡ text ++ m)
    within m begins ends (inl empty) =
        ([], sym (append-nil lines) ∙ ap (λ t. lines ++ t) (sym empty) ∙ sym begins ∙ sym (append-nil text))
    within m begins ends (inr w) =
        let last : w.1 ≡ 10 = snoc_last (lines ++ w.0) front w.1 10 (append_assoc lines w.0 (w.1 ∷ []) ∙ ap (λ t. lines ++ t) (sym w.2) ∙ sym begins ∙ end) in
        let tail_is : tail ≡ (w.0 ++ 10 ∷ []) ++ rest = ends ∙ ap (λ t. t ++ rest) (w.2 ∙ ap (λ x. w.0 ++ x ∷ []) last) in
        let count : ends_in tail ≡ ends_in (w.0 ++ 10 ∷ []) + ends_in rest = ap ends_in tail_is ∙ ends_in-append (w.0 ++ 10 ∷ []) rest in
        let here : ends_in (w.0 ++ 10 ∷ []) ≡ ends_in w.0 + 1 = ends_in-append w.0 (10 ∷ []) in
        absurd (omega (arith, none, count, here))

-- a first line with the blank lines before it: one line ends in it behind its first blank
pub record IsStart (start : List ℕ) : Type 0 where
  pub counts : (t : List ℕ) → ends_in (behind_blank (start ++ t)) ≡ 1 + ends_in t

-- before a head's last byte no more lines end than it has, and its first line
pub before_last : (start : List ℕ) → IsStart start → (fields : List Field) (last : LineEnd) → All IsField fields
    → (front : List ℕ) (x : ℕ) → front ++ x ∷ [] ≡ start ++ (lines_of fields ++ print_end last)
    → ends_in (behind_blank front) ≡ length fields + 1
before_last start is fields last all front x e =
    let end = section_last fields last all in
    let whole : front ++ x ∷ [] ≡ (start ++ end.0) ++ 10 ∷ [] = e ∙ ap (λ t. start ++ t) end.1 ∙ sym (append_assoc start end.0 (10 ∷ [])) in
    let same : front ≡ start ++ end.0 = snoc_front front (start ++ end.0) x 10 whole in
    let count = ap (λ t. ends_in (behind_blank t)) same ∙ is.counts end.0 in
    let lines = end.2 in
    omega arith

-- the same of each shorter front
pub begun_few : (start : List ℕ) → IsStart start → (fields : List Field) (last : LineEnd) → All IsField fields
    → (bytes more : List ℕ) → bytes ++ more ≡ start ++ (lines_of fields ++ print_end last) → (more ≡ [] → ⊥)
    → ends_in (behind_blank bytes) ≤ length fields + 1
begun_few start is fields last all bytes more e unfinished = elim (last_of more) [
  | inl none ↦ absurd (unfinished none)
  | inr w ↦
      let whole : (bytes ++ w.0) ++ w.1 ∷ [] ≡ start ++ (lines_of fields ++ print_end last) = append_assoc bytes w.0 (w.1 ∷ []) ∙ ap (λ t. bytes ++ t) (sym w.2) ∙ e in
      let count = before_last start is fields last all (bytes ++ w.0) w.1 whole in
      let less = ends_behind-more bytes w.0 in
      omega arith
]

-- where 66 lines end, 65 whole lines stand there
pub lines_inside : (start : List ℕ) → IsStart start → (fields : List Field) (last : LineEnd) → All IsField fields
    → (bytes more : List ℕ) → bytes ++ more ≡ start ++ (lines_of fields ++ print_end last) → (more ≡ [] → ⊥)
    → 66 ≤ ends_in (behind_blank bytes)
    → (rest : List ℕ) × (bytes ≡ (start ++ lines_of (take 65 fields)) ++ rest) × (65 ≤ length fields)
lines_inside start is fields last all bytes more e unfinished many =
    let few = begun_few start is fields last all bytes more e unfinished in
    let enough : 65 ≤ length fields = omega arith in
    let parts : lines_of fields ≡ lines_of (take 65 fields) ++ lines_of (drop 65 fields) = ap lines_of (sym (take-append-drop 65 fields)) ∙ flat_map-append print_field (take 65 fields) (drop 65 fields) in
    let later = lines_of (drop 65 fields) ++ print_end last in
    let cut : bytes ++ more ≡ (start ++ lines_of (take 65 fields)) ++ later =
    e ∙ ap (λ t. start ++ (t ++ print_end last)) parts ∙ ap (λ t. start ++ t) (append_assoc (lines_of (take 65 fields)) (lines_of (drop 65 fields)) (print_end last)) ∙ sym (append_assoc start (lines_of (take 65 fields)) later) in
    elim (two_cuts bytes more (start ++ lines_of (take 65 fields)) later cut) [
      | inl w ↦ (w.0, w.1, enough)
      | inr w ↦ inside enough w.0 w.1 (last_of w.0)
    ]
  where
    inside : 65 ≤ length fields → (m : List ℕ) → start ++ lines_of (take 65 fields) ≡ bytes ++ m
        → ((m ≡ []) ⊎ ((k : List ℕ) × (x : ℕ) × (m ≡ k ++ x ∷ [])))
        → (rest : List ℕ) × (bytes ≡ (start ++ lines_of (take 65 fields)) ++ rest) × (65 ≤ length fields)
    inside enough m begins (inl none) =
        ([], sym (append-nil bytes) ∙ ap (λ t. bytes ++ t) (sym none) ∙ sym begins ∙ sym (append-nil (start ++ lines_of (take 65 fields))), enough)
    inside enough m begins (inr w) =
        let long : length (take 65 fields) ≡ 65 = length-take-le 65 fields enough in
        let end = lines_last (take 65 fields) (All-take IsField 65 fields all) (omega arith) in
        let whole : (start ++ end.0) ++ 10 ∷ [] ≡ (bytes ++ w.0) ++ w.1 ∷ [] =
        append_assoc start end.0 (10 ∷ []) ∙ ap (λ t. start ++ t) (sym end.1) ∙ begins ∙ ap (λ t. bytes ++ t) w.2 ∙ sym (append_assoc bytes w.0 (w.1 ∷ [])) in
        let same : start ++ end.0 ≡ bytes ++ w.0 = snoc_front (start ++ end.0) (bytes ++ w.0) 10 w.1 whole in
        let count = ap (λ t. ends_in (behind_blank t)) (sym same) ∙ is.counts end.0 in
        let less = ends_behind-more bytes w.0 in
        let lines = end.2 in
        absurd (omega arith)

-- where two lines end in what is to come of a head, no more lines ended than it has
pub open_few : (start : List ℕ) → IsStart start → (fields : List Field) (last : LineEnd)
    → All IsField fields → (bytes more : List ℕ)
    → bytes ++ more ≡ start ++ (lines_of fields ++ print_end last) → 2 ≤ ends_in more
    → ends_in (behind_blank bytes) ≤ length fields
open_few start is fields last all bytes more e two = elim (ends_behind-both bytes more) [
  | inl none ↦ omega arith
  | inr behind ↦
      let lines = ends_in-lines fields all in
      let end = ends_in-print_end last in
      let both = ends_in-append (lines_of fields) (print_end last) in
      let start_is = is.counts (lines_of fields ++ print_end last) in
      let count = ap (λ t. ends_in (behind_blank t)) e ∙ start_is in
      let parts = ap ends_in behind ∙ ends_in-append (behind_blank bytes) more in
      omega arith
]
