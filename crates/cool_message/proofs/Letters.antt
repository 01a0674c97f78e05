-- A text that is no UTF-8 fails the test.
use Rattle.std.proofs.Common.{◌≡◌, ℕ, true, false, List, refl}
use Rattle.std.proofs.lemmas.Str.{IsUtf8-from_is_utf8}
use Rattle.std.specs.Str.{is_utf8, IsUtf8}

pub false_for_others : (text : List ℕ) → (IsUtf8 text → ⊥) → false ≡ is_utf8 text
false_for_others text h =
    elim (is_utf8 text) as (λ b. is_utf8 text ≡ b → false ≡ b) [
      | true ↦ λ e. absurd (h (IsUtf8-from_is_utf8 text e))
      | false ↦ λ _. refl
    ] refl
