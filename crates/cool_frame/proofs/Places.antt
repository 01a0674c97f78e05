-- Places in a text.
use Rattle.std.proofs.Common.{◌≡◌, ℕ, ◌≤◌, Bool, Some, None, List, length, unwrap_or, not, ltb, cond, arith}
use Rattle.std.proofs.lemmas.Grind.{common_steps}
use Rattle.std.proofs.lemmas.List.Sums.{prefix_len-le-length}
use Rattle.std.specs.List.{position, position_or_len}

-- a place below the end is the place, and else it is the end
place_at : (n end : ℕ) → n ≤ end → unwrap_or (cond (ltb n end) (Some n) None) end ≡ n
place_at n end h = grind (arith, common_steps)

-- the first place, or the length where there is none
pub place_or_len : (p : ℕ → Bool) (xs : List ℕ) → unwrap_or (position p xs) (length xs) ≡ position_or_len p xs
place_or_len p xs = place_at (position_or_len p xs) (length xs) (prefix_len-le-length (λ x. not (p x)) xs)

pub place_within : (p : ℕ → Bool) (xs : List ℕ) → unwrap_or (position p xs) (length xs) ≤ length xs
place_within p xs =
    let within = prefix_len-le-length (λ x. not (p x)) xs in
    rw (place_or_len p xs) within
