-- Each byte lowers a rank, so that a body is read in a bounded number of reads.
use Rattle.std.proofs.Common.{ℕ, ◌≡◌, ◌+◌, ◌*◌, ◌<◌, ◌≤◌, true, false, cond, List, [], ◌∷◌, ◌++◌, length, refl, ap, arith, max}
use Rattle.std.proofs.lemmas.Bool.Decides.{nat_tests}
use Rattle.wire_body.specs.declared.states.BodyState.{BodyState}
use Rattle.wire_body.specs.declared.states.Phase.{Phase}
use Rattle.wire_body.specs.declared.states.Phase.TheVariants.{Counted, Open, Full, Size, Digits, Pad, Extension, SizeEnd, Data, DataEnd, DataFeed, Trailer, Name, Value, ValueEnd, LastEnd, Done, TooLong, Bad}
use Rattle.wire_body.specs.Bodies.{run, step, step_in, is_content, is_final, Reached}

-- the content that may still come
abbrev amount : Phase → ℕ → ℕ → ℕ
amount p left room = cond (is_content p) (max left 1 + room) (max left room)

-- the bytes that may come before more content
abbrev around : Phase → ℕ → ℕ
around Full line = 1
around DataEnd line = 34002
around DataFeed line = 34001
around Size line = 17001 + line
around Digits line = 17001 + line
around Pad line = 17001 + line
around Extension line = 17001 + line
around SizeEnd line = 17001 + line
around Trailer line = 1 + line
around Name line = 1 + line
around Value line = 1 + line
around ValueEnd line = 1 + line
around LastEnd line = 1 + line
around _ line = 0

abbrev rank_at : Phase → ℕ → ℕ → ℕ → ℕ
rank_at p left room line = cond (is_final p) 0 (40000 * amount p left room + around p line)

unfoldable pub rank : BodyState → ℕ
rank s = rank_at s.phase s.left s.room s.line

falls_at : (p : Phase) (left room line b : ℕ) → is_final p ≡ false
    → rank (step_in p (record { phase = p; left = left; room = room; line = line }) b) < rank_at p left room line
unfolding rank
falls_at Counted left room line b is = grind (arith, nat_tests)
falls_at Open left room line b is = grind (arith, nat_tests)
falls_at Full left room line b is = grind (arith, nat_tests)
falls_at Size left room line b is = grind (arith, nat_tests)
falls_at Digits left room line b is = grind (arith, nat_tests)
falls_at Pad left room line b is = grind (arith, nat_tests)
falls_at Extension left room line b is = grind (arith, nat_tests)
falls_at SizeEnd left room line b is = grind (arith, nat_tests)
falls_at Data left room line b is = grind (arith, nat_tests)
falls_at DataEnd left room line b is = grind (arith, nat_tests)
falls_at DataFeed left room line b is = grind (arith, nat_tests)
falls_at Trailer left room line b is = grind (arith, nat_tests)
falls_at Name left room line b is = grind (arith, nat_tests)
falls_at Value left room line b is = grind (arith, nat_tests)
falls_at ValueEnd left room line b is = grind (arith, nat_tests)
falls_at LastEnd left room line b is = grind (arith, nat_tests)
falls_at Done left room line b is = cc
falls_at TooLong left room line b is = cc
falls_at Bad left room line b is = cc

pub step_falls : (s : BodyState) (b : ℕ) → is_final s.phase ≡ false → rank (step s b) < rank s
unfolding rank
step_falls s b is = falls_at s.phase s.left s.room s.line b is

-- behind a final phase nothing changes
final_at : (p : Phase) (s : BodyState) (b : ℕ) → is_final p ≡ true → step_in p s b ≡ s
final_at Done s b is = refl
final_at TooLong s b is = refl
final_at Bad s b is = refl
final_at _ s b is = cc

pub step_of_final : (s : BodyState) (b : ℕ) → is_final s.phase ≡ true → step s b ≡ s
step_of_final s b is = final_at s.phase s b is

-- bytes raise no rank
run_kept : (s : BodyState) (body xs : List ℕ) → rank (run s body xs).state ≤ rank s
unfolding run
run_kept s body [] = omega arith
run_kept s body (x ∷ xs) =
    let rest : rank (run s body (x ∷ xs)).state ≤ rank (step s x) = run_kept (step s x) (cond (is_content s.phase) (body ++ x ∷ []) body) xs in
    elim (is_final s.phase) as (λ f. is_final s.phase ≡ f → rank (run s body (x ∷ xs)).state ≤ rank s) [
      | true ↦ λ is. omega (arith, ap rank (step_of_final s x is))
      | false ↦ λ is. omega (arith, step_falls s x is)
    ] refl

-- bytes lower the rank of a state that isn't final
pub run_falls : (s s' : BodyState) (body body' xs : List ℕ) → is_final s.phase ≡ false → 0 < length xs → run s body xs ≡ record { state = s'; body = body' } → rank s' < rank s
unfolding run
run_falls s s' body body' [] is some made = absurd (omega arith)
run_falls s s' body body' (x ∷ xs) is some made =
    let rest : rank (run s body (x ∷ xs)).state ≤ rank (step s x) = run_kept (step s x) (cond (is_content s.phase) (body ++ x ∷ []) body) xs in
    omega (arith, step_falls s x is, ap (λ (r : Reached). rank r.state) made)
