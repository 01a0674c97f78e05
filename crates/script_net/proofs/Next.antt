-- The next event, one link after the other.
use Rattle.std.proofs.Common.{◌≡◌, ◌<◌, ◌+◌, ℕ, List, length, drop, get_or, drop-cons, refl, sym}
use Rattle.std.proofs.Common.{ap, ◌∙◌, arith, suc}
use Rattle.script_net.specs.Queues.{LinkSeen, next_from, sooner, first_place}

-- The same with both ways to write the next index.
split_off : (links : List LinkSeen) (i : ℕ) (d : LinkSeen) → i < length links
    → next_from i (drop i links)
    ≡ sooner i (first_place (get_or links i d).waiting) (next_from (i + 1) (drop (suc i) links))
split_off links i d lt = ap (next_from i) (drop-cons links i d lt)

-- The next of the links from this index on, by that link and those behind it.
pub next_step : (links : List LinkSeen) (i j : ℕ) (d : LinkSeen) → j ≡ i + 1 → i < length links
    → next_from i (drop i links)
    ≡ sooner i (first_place (get_or links i d).waiting) (next_from j (drop j links))
next_step links i j d e lt =
    let s : suc i ≡ j = omega arith in
    let t : i + 1 ≡ j = omega arith in
    let first = first_place (get_or links i d).waiting in
    split_off links i d lt
    ∙ ap (λ k. sooner i first (next_from k (drop (suc i) links))) t
    ∙ ap (λ k. sooner i first (next_from j (drop k links))) s
