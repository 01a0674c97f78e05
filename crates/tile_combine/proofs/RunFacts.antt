-- The groups of some keys are the first group and the groups of the keys behind it.
use Rattle.std.proofs.Common.{◌≡◌, ℕ, zero, suc, ◌+◌, ◌≤◌, ◌<◌, arith, Bool, true, false, List, [], ◌∷◌, ◌++◌, length, take, drop, refl, ap, sym, ◌∙◌, append_assoc, append-nil, length-append, length-take-le, inl, inr}
use Rattle.std.proofs.lemmas.Grind.{common_steps}
use Rattle.std.specs.List.{flat_map}
use Rattle.std.proofs.lemmas.Bool.{lt-ltb, cases_lt}
use Rattle.tile_key.specs.Places.{Place}
use Rattle.tile_combine.specs.Runs.{follows, runs, pieces, eights, groups_of}
use Rattle.tile_combine.specs.Front.{following, front_of}
use Rattle.tile_combine.proofs.FrontFacts.{few, within}

-- the runs of keys of which the first ones, `left`, may belong to a run that began before
abbrev rest_runs : List Place → List (List Place) → List (List Place)
rest_runs [] others = others
rest_runs (key ∷ left) others = (key ∷ left) ∷ others

-- the first run of some keys begins with the keys that follow one another
record IsFront (most : ℕ) (key : Place) (keys : List Place) : Type 0 where
  left : List Place
  others : List (List Place)
  whole : runs (key ∷ keys) ≡ ((key ∷ take (following most key keys) keys) ++ left) ∷ others
  behind : runs (drop (following most key keys) keys) ≡ rest_runs left others
  ends : following most key keys < most → left ≡ []

-- a key in front of some runs
joins : (key : Place) (keys : List Place) (rs : List (List Place)) → runs keys ≡ rs → IsFront 0 key keys
joins key keys [] e = record { left = []; others = []; whole = rw e refl; behind = e; ends = λ low. refl }
joins key keys ([] ∷ rs) e = record { left = []; others = [] ∷ rs; whole = rw e refl; behind = e; ends = λ low. refl }
joins key keys ((other ∷ run) ∷ rs) e =
    let go : (b : Bool) → follows key other ≡ b → IsFront 0 key keys = elim [
      | true ↦ λ on. record { left = other ∷ run; others = rs; whole = rw (e, on) refl; behind = e; ends = λ low. absurd (omega (arith, low)) }
      | false ↦ λ off. record { left = []; others = (other ∷ run) ∷ rs; whole = rw (e, off) refl; behind = e; ends = λ low. refl }
    ] in go (follows key other) refl

front_is : (most : ℕ) (key : Place) (keys : List Place) → IsFront most key keys
front_is zero key keys = joins key keys (runs keys) refl
front_is (suc most) key [] = record { left = []; others = []; whole = refl; behind = refl; ends = λ low. refl }
front_is (suc most) key (other ∷ others) =
    let next = front_is most other others in
    let go : (b : Bool) → follows key other ≡ b → IsFront (suc most) key (other ∷ others) = elim [
      | true ↦ λ on. record {
        left = next.left;
        others = next.others;
        whole = rw (next.whole, on) refl;
        behind = rw on next.behind;
        ends = λ low. next.ends (omega (arith, rw on at low));
      }
      | false ↦ λ off. record {
        left = [];
        others = ((other ∷ take (following most other others) others) ++ next.left) ∷ next.others;
        whole = rw (next.whole, off) refl;
        behind = rw off next.whole;
        ends = λ low. refl;
      }
    ] in go (follows key other) refl

-- few keys are one piece
one_piece : (piece keys : List Place) → length piece + length keys ≤ 8 → pieces piece keys ≡ (piece ++ keys) ∷ []
one_piece piece [] few = ap (λ p. p ∷ []) (sym (append-nil piece))
one_piece piece (key ∷ keys) few =
    rw (lt-ltb (length piece) 8 (omega (arith, few)))
    (one_piece (piece ++ key ∷ []) keys (omega (arith, few, length-append piece (key ∷ []))) ∙ ap (λ p. p ∷ []) (append_assoc piece (key ∷ []) keys))

-- eight keys are a piece, and more go into the next one
full_piece : (piece keys : List Place) (key : Place) (more : List Place) → length piece + length keys ≡ 8 → pieces piece (keys ++ key ∷ more) ≡ (piece ++ keys) ∷ pieces (key ∷ []) more
full_piece piece [] key more full = grind (arith, common_steps)
full_piece piece (first ∷ keys) key more full =
    rw (lt-ltb (length piece) 8 (omega (arith, full)))
    (full_piece (piece ++ first ∷ []) keys key more (omega (arith, full, length-append piece (first ∷ []))) ∙ ap (λ p. p ∷ pieces (key ∷ []) more) (append_assoc piece (first ∷ []) keys))

cons_apart : (key : Place) (keys : List Place) → (key ∷ keys) ≡ [] → ⊥
cons_apart key keys e = cc

-- a run of which the first keys are one group: that group, and the groups of what is left of it
group_piece : (key : Place) (front left : List Place) → suc (length front) ≤ 8 → (suc (length front) < 8 → left ≡ []) → eights ((key ∷ front) ++ left) ≡ (key ∷ front) ∷ eights left
group_piece key front [] most ends =
    ap (λ l. pieces (key ∷ []) l) (append-nil front) ∙ one_piece (key ∷ []) front (omega (arith, most))
group_piece key front (first ∷ left) most ends =
    let full : suc (length front) ≡ 8 = elim (cases_lt (suc (length front)) 8) as (λ _. suc (length front) ≡ 8) [
      | inl less ↦ absurd (cons_apart first left (ends less))
      | inr more ↦ omega (arith, most, more)
    ] in
    full_piece (key ∷ []) front first left (omega (arith, full))

rest_groups : (left : List Place) (others : List (List Place)) → eights left ++ flat_map eights others ≡ flat_map eights (rest_runs left others)
rest_groups [] others = refl
rest_groups (key ∷ left) others = refl

-- the groups of some keys
pub groups_front : (key : Place) (keys : List Place) → groups_of (key ∷ keys) ≡ (key ∷ take (following 7 key keys) keys) ∷ groups_of (drop (following 7 key keys) keys)
groups_front key keys =
    let front = front_is 7 key keys in
    let long : length (take (following 7 key keys) keys) ≡ following 7 key keys = length-take-le (following 7 key keys) keys (within 7 key keys) in
    let piece = group_piece key (take (following 7 key keys) keys) front.left (omega (arith, long, few 7 key keys)) (λ low. front.ends (omega (arith, long, low))) in
    ap (flat_map eights) front.whole
    ∙ (ap (λ gs. gs ++ flat_map eights front.others) piece
    ∙ ap (λ gs. (key ∷ take (following 7 key keys) keys) ∷ gs) (rest_groups front.left front.others ∙ ap (flat_map eights) (sym front.behind)))

-- the same, of keys that are some
pub groups_cut : (keys : List Place) → 0 < length keys → groups_of keys ≡ take (front_of keys) keys ∷ groups_of (drop (front_of keys) keys)
groups_cut [] some = absurd (omega (arith, some))
groups_cut (key ∷ keys) some = groups_front key keys

-- one more group
pub group_more : (groups : List (List Place)) (rest front behind : List Place) (n : ℕ) (all new : List (List Place)) → 0 < length rest → n ≡ front_of rest → front ≡ take n rest → behind ≡ drop n rest → new ≡ groups ++ front ∷ [] → groups ++ groups_of rest ≡ all → new ++ groups_of behind ≡ all
group_more groups rest front behind n all new some count first last now before =
    rw (now, first, last, count, append_assoc groups (take (front_of rest) rest ∷ []) (groups_of (drop (front_of rest) rest)))
    (ap (λ gs. groups ++ gs) (sym (groups_cut rest some)) ∙ before)
