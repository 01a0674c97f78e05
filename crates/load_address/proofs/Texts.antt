-- Bytes that are text, and others.
use Rattle.std.proofs.Common.{◌≡◌, ℕ, List, Bool, true, false, IsUtf8, Option, Some, None, ap}
use Rattle.std.proofs.Common.{refl, cond}
use Rattle.std.specs.Str.{is_utf8}
use Rattle.std.proofs.lemmas.Str.{is_utf8-from_IsUtf8, IsUtf8-from_is_utf8}
use Rattle.load_address.specs.Addresses.{text_of}

-- bytes that are UTF-8 are text
pub text_of_utf8 : (bytes : List ℕ) → IsUtf8 bytes → text_of bytes ≡ Some bytes
text_of_utf8 bytes utf8 = ap (λ test. cond test (Some bytes) None) (is_utf8-from_IsUtf8 bytes utf8)

-- others aren't
pub text_of_others : (bytes : List ℕ) → (IsUtf8 bytes → ⊥) → text_of bytes ≡ None
text_of_others bytes other = by_test (is_utf8 bytes) refl
  where
    by_test : (test : Bool) → is_utf8 bytes ≡ test
        → ◌≡◌ {A = Option (List ℕ)} (cond test (Some bytes) None) None
    by_test true is = absurd (other (IsUtf8-from_is_utf8 bytes is))
    by_test false is = refl
