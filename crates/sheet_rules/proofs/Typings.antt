-- Texts that keys write, and the last cell of a row.
use Rattle.std.proofs.Common.{◌≡◌, ℕ, suc, ◌+◌, ◌-◌, ◌<◌, ◌≤◌, Bool, true, false, ◌==◌, List, [], ◌∷◌, ◌++◌, length, take, drop, Option, Some, None, IfSome, IfNone, if◌then◌else◌, refl, ap, sym, ◌∙◌, subst, arith, add-one, length-append, append-nil}
use Rattle.std.specs.Str.{chars, IsUtf8}
use Rattle.std.specs.Char.{encode_utf8}
use Rattle.std.specs.Str.{encode_utf8_all}
use Rattle.std.proofs.Math.Seq.{drop-append_seam, take-append_seam}
use Rattle.std.proofs.lemmas.Str.{chars-nil, IsUtf8-drop, IsCharBoundary-from_take, chars-append, chars_past_char, encodes-chars}
use Rattle.sheet_rules.specs.Typing.{last_filled, without_last}

-- ---- the last cell of a row

pub filled_none : (text : ℕ → List ℕ) → 0 ≡ last_filled text 0
unfolding last_filled
filled_none text = refl

filled_turn : (text : ℕ → List ℕ) (n : ℕ) → last_filled text (n + 1) ≡ (if length (text n) == 0 then last_filled text n else n)
unfolding last_filled
filled_turn text n = rw add-one refl

pub filled_here : (text : ℕ → List ℕ) (n : ℕ) (raw : List ℕ) → raw ≡ text n → (length raw == 0) ≡ false → n ≡ last_filled text (n + 1)
filled_here text n raw at some =
    sym (filled_turn text n ∙ ap (λ (r : List ℕ). if length r == 0 then last_filled text n else n) (sym at) ∙ ap (λ (b : Bool). if b then last_filled text n else n) some)

pub filled_before : (text : ℕ → List ℕ) (n : ℕ) (raw : List ℕ) → raw ≡ text n → (length raw == 0) ≡ true → last_filled text n ≡ last_filled text (n + 1)
filled_before text n raw at none =
    sym (filled_turn text n ∙ ap (λ (r : List ℕ). if length r == 0 then last_filled text n else n) (sym at) ∙ ap (λ (b : Bool). if b then last_filled text n else n) none)

-- ---- a text without its last character

front : (cs : List ℕ) (c : ℕ) → take (length (cs ++ c ∷ []) - 1) (cs ++ c ∷ []) ≡ cs
front cs c =
    let size : length (cs ++ c ∷ []) - 1 ≡ length cs = omega (arith, length-append cs (c ∷ [])) in
    ap (λ (n : ℕ). take n (cs ++ c ∷ [])) size ∙ take-append_seam cs (c ∷ [])

one_char : (c : ℕ) → IsUtf8 (encode_utf8 c) → chars (encode_utf8 c) ≡ c ∷ []
one_char c u = chars_past_char (encode_utf8 c) [] c u (sym (append-nil (encode_utf8 c))) ∙ ap (λ (cs : List ℕ). c ∷ cs) chars-nil

last_is_char : (old new : List ℕ) (c : ℕ) → IsUtf8 old → IsUtf8 new → old ≡ new ++ encode_utf8 c → IsUtf8 (encode_utf8 c)
last_is_char old new c u v e =
    let within : length new ≤ length old = omega (arith, ap (λ (s : List ℕ). length s) e, length-append new (encode_utf8 c)) in
    let before : take (length new) old ≡ new = ap (take (length new)) e ∙ take-append_seam new (encode_utf8 c) in
    subst IsUtf8 (ap (drop (length new)) e ∙ drop-append_seam new (encode_utf8 c))
    (IsUtf8-drop old (length new) u (IsCharBoundary-from_take old (length new) u within (subst IsUtf8 (sym before) v)))

shorter_is : (old new : List ℕ) (c : ℕ) → IsUtf8 old → IsUtf8 new → old ≡ new ++ encode_utf8 c → new ≡ without_last old
unfolding without_last
shorter_is old new c u v e =
    let letters : chars old ≡ chars new ++ c ∷ [] =
    ap chars e ∙ chars-append new (encode_utf8 c) v ∙ ap (λ (cs : List ℕ). chars new ++ cs) (one_char c (last_is_char old new c u v e)) in
    sym (ap (λ (cs : List ℕ). encode_utf8_all (take (length cs - 1) cs)) letters ∙ ap encode_utf8_all (front (chars new) c) ∙ encodes-chars new v)

no_bytes : (s : List ℕ) → length s ≡ 0 → s ≡ []
no_bytes [] h = refl
no_bytes (c ∷ s) h = absurd (omega arith)

none_shorter : without_last [] ≡ []
unfolding without_last
none_shorter = rw chars-nil refl

-- what is left where the last character of a text, if there is one, was taken
pub last_gone : (old new : List ℕ) (m n : ℕ) (r : Option ℕ) → m ≡ length old → n ≡ length new → IsUtf8 old → IsUtf8 new → IfSome r (λ c. old ≡ new ++ encode_utf8 c) → IfNone r (m ≡ 0) → n ≤ m → new ≡ without_last old
last_gone old new m n None before after u v some none less =
    let a = no_bytes old (sym before ∙ none) in
    no_bytes new (omega (arith, none)) ∙ sym none_shorter ∙ ap without_last (sym a)
last_gone old new m n (Some c) before after u v some none less = shorter_is old new c u v some
