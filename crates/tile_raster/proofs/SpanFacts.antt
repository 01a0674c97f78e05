-- Which pixels sample points before an edge.
use Rattle.std.proofs.Common.{◌≡◌, ℕ, ◌+◌, ◌-◌, ◌*◌, ◌/◌, ◌%◌, ◌<◌, ◌≤◌, min, nat_lt, ltb, arith, ⊎_elim}
use Rattle.std.specs.Int.{div_ceil}
use Rattle.std.proofs.Math.Nat.{mul-le-mul_right, div-lt_iff_lt-mul}
use Rattle.std.proofs.lemmas.Bool.{cases_lt}
use Rattle.std.proofs.lemmas.Bool.Decides.{same_from_decides, Decides-ltb, Decides-like}

same_tests : (a b c d : ℕ) → (a < b → c < d) → (c < d → a < b) → nat_lt a b ≡ nat_lt c d
same_tests a b c d to from = same_from_decides (ltb a b) (ltb c d) (Decides-ltb a b) (Decides-like (ltb c d) from to (Decides-ltb c d))

below_ceil : (i n t q r : ℕ) → 0 < t → n ≡ q * t + r → r < t → i < q + min 1 r → i * t < n
below_ceil i n t q r some parts rest below =
    ⊎_elim (λ (less : i < q). omega (arith, mul-le-mul_right {m = i + 1} {n = q} t (omega arith))) (λ (last : q ≤ i). let same : i ≡ q = omega arith in rw same (omega arith)) (cases_lt i q)

ceil_above : (i n t q r : ℕ) → 0 < t → n ≡ q * t + r → r < t → i * t < n → i < q + min 1 r
ceil_above i n t q r some parts rest below =
    ⊎_elim (λ less. omega arith) (λ last. ⊎_elim (λ beyond. omega (arith, mul-le-mul_right {m = q + 1} {n = i} t (omega arith))) (λ level. let same : i ≡ q = omega arith in let more : q * t < n = rw same at below in omega arith) (cases_lt q i)) (cases_lt i q)

pub first_exact : (pos twips pixels edge i : ℕ) → 1 ≤ twips → 1 ≤ pixels → i < pixels → nat_lt i (min (div_ceil ((edge - pos) * pixels) twips) pixels) ≡ nat_lt (pos + i * twips / pixels) edge
first_exact pos twips pixels edge i some_twips some_pixels within =
    let n = (edge - pos) * pixels in
    let parts : n ≡ n / twips * twips + n % twips = omega arith in
    let rest : n % twips < twips = omega arith in
    let quotient = div-lt_iff_lt-mul {k = pixels} {x = i * twips} {y = edge - pos} some_pixels in
    same_tests i (min (div_ceil ((edge - pos) * pixels) twips) pixels) (pos + i * twips / pixels) edge
    (λ below. let less = below_ceil i n twips (n / twips) (n % twips) some_twips parts rest (omega arith) in omega (arith, quotient.1 less))
    (λ below. let less = quotient.0 (omega arith) in omega (arith, ceil_above i n twips (n / twips) (n % twips) some_twips parts rest less))
