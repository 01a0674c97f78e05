-- The token of a query, word by word.
use Rattle.std.proofs.Common.{ℕ, ◌≡◌, ◌<◌, List, [], ◌∷◌, length, drop, get_or, Some, None, Bool, true, false, ◌&&◌, nat_eq, codes, refl, ap, cond, arith}
use Rattle.std.specs.List.{starts_with}
use Rattle.wopi_host.specs.Targets.{token_from, word_of}

-- the token's word begins here
pub token_here : (begins : Bool) (bytes : List ℕ) → 0 < length bytes
    → (begins && starts_with nat_eq bytes (codes "access_token=")) ≡ true
    → token_from begins bytes ≡ Some (word_of (drop 13 bytes))
unfolding token_from
token_here begins [] some here = absurd (omega arith)
token_here begins (b ∷ bytes) some here = ap (λ t. cond t (Some (word_of (drop 13 (b ∷ bytes)))) (token_from (nat_eq b 38) bytes)) here

-- it begins later, if at all
pub token_later : (begins : Bool) (bytes : List ℕ) → 0 < length bytes
    → (begins && starts_with nat_eq bytes (codes "access_token=")) ≡ false
    → token_from begins bytes ≡ token_from (nat_eq (get_or bytes 0 0) 38) (drop 1 bytes)
unfolding token_from
token_later begins [] some later = absurd (omega arith)
token_later begins (b ∷ bytes) some later = ap (λ t. cond t (Some (word_of (drop 13 (b ∷ bytes)))) (token_from (nat_eq b 38) bytes)) later

-- no byte, no token
pub token_missing : (begins : Bool) (bytes : List ℕ) → length bytes ≡ 0 → token_from begins bytes ≡ None
unfolding token_from
token_missing begins [] none = refl
token_missing begins (b ∷ bytes) none = absurd (omega arith)
