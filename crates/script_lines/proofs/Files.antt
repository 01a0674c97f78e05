-- A file id is text, and which bytes are text.
use Rattle.std.proofs.Common.{◌≡◌, ℕ, zero, suc, ◌<◌, ◌&&◌, if◌then◌else◌, List, [], ◌∷◌, get_or, Bool, true, false, None, Some, refl, sym, ap, arith}
use Rattle.std.specs.List.{list_all}
use Rattle.std.specs.Str.{IsUtf8, is_utf8}
use Rattle.std.proofs.lemmas.Str.{IsUtf8-from_ascii, IsUtf8-from_is_utf8}
use Rattle.std.proofs.lemmas.Grind.{common_steps}
use Rattle.cool_base.specs.Words.{is_file_character, is_file_id, file_id}

and_left : (a b : Bool) → (a && b) ≡ true → a ≡ true
and_left true b is = refl
and_left false b is = (cc)

and_right : (a b : Bool) → (a && b) ≡ true → b ≡ true
and_right true b is = is
and_right false b is = (cc)

small_character : (c : ℕ) → is_file_character c ≡ true → c < 128
small_character c is = grind (arith, common_steps)

small_characters : (text : List ℕ) (i : ℕ) → list_all is_file_character text ≡ true → get_or text i 0 < 128
small_characters [] i is = grind (arith, common_steps)
small_characters (c ∷ cs) zero is = small_character c (and_left (is_file_character c) (list_all is_file_character cs) is)
small_characters (c ∷ cs) (suc i) is = small_characters cs i (and_right (is_file_character c) (list_all is_file_character cs) is)

not_text_at : (text : List ℕ) (b : Bool) → is_file_id text ≡ b → (IsUtf8 text → ⊥) → None ≡ file_id text
not_text_at text true is not = absurd (not (IsUtf8-from_ascii text (λ i. small_characters text i (and_right _ _ is))))
not_text_at text false is not = ap (λ (b : Bool). (if b then Some text else None)) (sym is)

pub not_text : (text : List ℕ) → (IsUtf8 text → ⊥) → None ≡ file_id text
not_text text not = not_text_at text (is_file_id text) refl not

pub no_text : (text : List ℕ) → (IsUtf8 text → ⊥) → false ≡ is_utf8 text
no_text text h =
    elim (is_utf8 text) as (λ b. is_utf8 text ≡ b → false ≡ b) [
      | true ↦ λ e. absurd (h (IsUtf8-from_is_utf8 text e))
      | false ↦ λ _. refl
    ] refl
