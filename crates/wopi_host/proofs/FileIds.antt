-- A file id is ASCII, so it is text.
use Rattle.std.proofs.Common.{lit<, ℕ, zero, suc, ◌≡◌, ◌<◌, List, [], ◌∷◌, Bool, true, false, ◌&&◌, get_or, arith, IsUtf8, Some, None, cond, refl}
use Rattle.std.proofs.lemmas.Grind.{common_steps}
use Rattle.std.specs.List.{list_all}
use Rattle.std.proofs.lemmas.Str.{IsUtf8-from_ascii}
use Rattle.cool_base.specs.Words.{is_file_id, is_file_character, file_id}

-- its characters are ASCII
pub character_ascii : (c : ℕ) → is_file_character c ≡ true → c < 128
character_ascii c is = grind (arith, common_steps)

pub both_true : (a b : Bool) → (a && b) ≡ true → (a ≡ true) × (b ≡ true)
both_true true true h = (refl, refl)
both_true true false h = cc
both_true false b h = cc

pub all_ascii : (bytes : List ℕ) → list_all is_file_character bytes ≡ true → (i : ℕ) → get_or bytes i 0 < 128
all_ascii [] all i = lit< tt
all_ascii (b ∷ bytes) all zero = character_ascii b (both_true _ _ all).0
all_ascii (b ∷ bytes) all (suc i) = all_ascii bytes (both_true _ _ all).1 i

-- what isn't text is no file id
pub none_of_bytes : (bytes : List ℕ) → (IsUtf8 bytes → ⊥) → None ≡ file_id bytes
none_of_bytes bytes other = by_test (is_file_id bytes) refl
  where
    by_test : (test : Bool) → is_file_id bytes ≡ test → None ≡ cond test (Some bytes) None
    by_test true is = absurd (other (IsUtf8-from_ascii bytes (all_ascii bytes (both_true _ _ is).1)))
    by_test false is = refl
