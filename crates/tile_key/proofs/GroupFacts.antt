-- What a run of keys says of their number and of their place together.
use Rattle.std.proofs.Common.{◌≡◌, ◌≤◌, ◌<◌, ◌*◌, ◌+◌, ℕ, arith, List, [], ◌∷◌, length, ap, refl, sum_by, get_or}
use Rattle.std.proofs.lemmas.List.Sums.{sum_by-cons}
use Rattle.tile_key.specs.Places.{Place, IsRun, IsGroup, place_of_keys}

-- the sum of f over a run, f being the same at each place and the one behind it
run_sum : (f : Place → ℕ) (ps : List Place) (p : Place) → ((q r : Place) → IsRun q (r ∷ []) → f r ≡ f q) → IsRun p ps → sum_by f ps ≡ length ps * f p
run_sum f [] p same h = omega arith
run_sum f (q ∷ qs) p same h =
    let e : f q ≡ f p = same p q (h.0, tt) in
    let rest : sum_by f qs ≡ length qs * f p = rw (← e) (run_sum f qs q same h.1) in
    let more : length (q ∷ qs) ≡ length qs + 1 = omega arith in
    rw (sum_by-cons f q qs, more) (omega (arith, rest, e))

-- and over a run with its first place
group_sum : (f : Place → ℕ) (ps : List Place) (p : Place) → ((q r : Place) → IsRun q (r ∷ []) → f r ≡ f q) → IsRun p ps → sum_by f (p ∷ ps) ≡ length (p ∷ ps) * f p
group_sum f ps p same h =
    let rest : sum_by f ps ≡ length ps * f p = run_sum f ps p same h in
    let more : length (p ∷ ps) ≡ length ps + 1 = omega arith in
    rw (sum_by-cons f p ps, more) (omega (arith, rest))

pub group_some : (ps : List Place) → IsGroup ps → 0 < length ps
group_some [] h = absurd h
group_some (p ∷ ps) h = omega arith

pub group_few : (ps : List Place) → IsGroup ps → length ps ≤ 8
group_few [] h = absurd h
group_few (p ∷ ps) h = omega (arith, h.0)

pub group_place : (ps : List Place) (p : Place) → IsGroup ps → p ≡ get_or ps 0 p → record p { width = length ps * p.width; tilewidth = length ps * p.tilewidth } ≡ place_of_keys ps
group_place [] p h e = absurd h
group_place (q ∷ qs) p h e =
    let first : p ≡ q = e in
    rw (first, group_sum (λ r. r.width) qs q (λ a b k. ap (λ r. r.width) k.0) h.1, group_sum (λ r. r.tilewidth) qs q (λ a b k. ap (λ r. r.tilewidth) k.0) h.1) refl

pub ruleset group_facts = (group_some, group_few, group_place)
