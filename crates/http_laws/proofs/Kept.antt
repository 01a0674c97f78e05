-- A body in chunks stays one.
use Rattle.std.proofs.Common.{ℕ, ◌≡◌, Bool, true, false, cond, List, [], ◌∷◌, ◌++◌, refl}
use Rattle.std.proofs.Common.{arith}
use Rattle.std.proofs.lemmas.Bool.Decides.{nat_tests}
use Rattle.wire_body.specs.declared.states.BodyState.{BodyState}
use Rattle.wire_body.specs.declared.states.Phase.{Phase}
use Rattle.wire_body.specs.declared.states.Phase.TheVariants.{Counted, Open, Full, Size, Digits, Pad, Extension, SizeEnd, Data, DataEnd, DataFeed, Trailer, Name, Value, ValueEnd, LastEnd, Done, TooLong, Bad}
use Rattle.wire_body.specs.Bodies.{run, step, is_content}
use Rattle.http_laws.proofs.Leads.{place}

abbrev pub is_of_chunks : Phase → Bool
is_of_chunks Counted = false
is_of_chunks Open = false
is_of_chunks Full = false
is_of_chunks _ = true

step_at : (p : Phase) (left room n b : ℕ) → is_of_chunks p ≡ true → is_of_chunks (step (place p left room n) b).phase ≡ true
step_at Counted left room n b is = cc
step_at Open left room n b is = cc
step_at Full left room n b is = cc
step_at Size left room n b is = grind (arith, nat_tests)
step_at Digits left room n b is = grind (arith, nat_tests)
step_at Pad left room n b is = grind (arith, nat_tests)
step_at Extension left room n b is = grind (arith, nat_tests)
step_at SizeEnd left room n b is = grind (arith, nat_tests)
step_at Data left room n b is = grind (arith, nat_tests)
step_at DataEnd left room n b is = grind (arith, nat_tests)
step_at DataFeed left room n b is = grind (arith, nat_tests)
step_at Trailer left room n b is = grind (arith, nat_tests)
step_at Name left room n b is = grind (arith, nat_tests)
step_at Value left room n b is = grind (arith, nat_tests)
step_at ValueEnd left room n b is = grind (arith, nat_tests)
step_at LastEnd left room n b is = grind (arith, nat_tests)
step_at Done left room n b is = refl
step_at TooLong left room n b is = refl
step_at Bad left room n b is = refl

pub run_kept : (s : BodyState) (body bytes : List ℕ) → is_of_chunks s.phase ≡ true → is_of_chunks (run s body bytes).state.phase ≡ true
unfolding run
run_kept s body [] is = is
run_kept s body (b ∷ bytes) is = run_kept (step s b) (cond (is_content s.phase) (body ++ b ∷ []) body) bytes (step_at s.phase s.left s.room s.line b is)
