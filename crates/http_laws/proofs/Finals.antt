-- What a body says stays.
use Rattle.std.proofs.Common.{ℕ, ◌≡◌, ◌+◌, ◌≤◌, Bool, true, false, cond, nat_le, List, [], ◌∷◌, ◌++◌, Some, Result, Err, refl, sym, ap, ◌∙◌, arith}
use Rattle.std.proofs.lemmas.Bool.Decides.{nat_tests}
use Rattle.outside.specs.declared.faults.WireFault.{WireFault}
use Rattle.outside.specs.declared.faults.WireFault.TheVariants.{BadChunk}
use Rattle.wire_body.specs.declared.states.BodyState.{BodyState}
use Rattle.wire_body.specs.declared.states.Phase.{Phase}
use Rattle.wire_body.specs.declared.states.Phase.TheVariants.{Done, TooLong, Bad}
use Rattle.wire_body.specs.Bodies.{run, reached, Reached, step, verdict, verdict_behind, is_content, is_final, body_says, framing_at, framing_in}
use Rattle.wire_body.specs.declared.states.TheConstants.{FRAMING_LIMIT}
use Rattle.wire_body.proofs.Runs.{run_none, run_one, run_append, framing_none, framing_one, framing_append}
use Rattle.wire_body.proofs.Ranks.{step_of_final}

final_no_content : (p : Phase) → is_final p ≡ true → is_content p ≡ false
final_no_content Done is = refl
final_no_content TooLong is = refl
final_no_content Bad is = refl
final_no_content _ is = cc

-- behind a final state nothing changes
pub run_final : (s : BodyState) (body xs : List ℕ) → is_final s.phase ≡ true → run s body xs ≡ reached s body
run_final s body [] is = run_none s body
run_final s body (x ∷ xs) is =
    run_one s body x xs (final_no_content s.phase is)
    ∙ ap (λ t. run t body xs) (step_of_final s x is)
    ∙ run_final s body xs is

-- what is said without an end is said in a final phase
said_final : (p : Phase) (body : List ℕ) (r : Result (List ℕ) WireFault) → verdict p body false ≡ Some r → is_final p ≡ true
said_final Done body r is = refl
said_final TooLong body r is = refl
said_final Bad body r is = refl
said_final _ body r is = cc

-- and is the same with an end
said_both : (p : Phase) (body : List ℕ) (ended : Bool) → is_final p ≡ true → verdict p body ended ≡ verdict p body false
said_both Done body ended is = refl
said_both TooLong body ended is = refl
said_both Bad body ended is = refl
said_both _ body ended is = cc

-- behind a final state nothing is framing
final_no_framing : (p : Phase) → is_final p ≡ true → framing_at p ≡ 0
final_no_framing Done is = refl
final_no_framing TooLong is = refl
final_no_framing Bad is = refl
final_no_framing _ is = cc

pub framing_final : (s : BodyState) (xs : List ℕ) → is_final s.phase ≡ true → framing_in s xs ≡ 0
framing_final s [] is = framing_none s
framing_final s (x ∷ xs) is =
    let rest : framing_in s xs ≡ 0 = framing_final s xs is in
    let next : framing_in (step s x) xs ≡ framing_in s xs = ap (λ t. framing_in t xs) (step_of_final s x is) in
    omega (arith, framing_one s x xs, final_no_framing s.phase is, next, rest)

-- too much framing stays too much
past_stays : (n k limit : ℕ) → nat_le n limit ≡ false → nat_le (n + k) limit ≡ false
past_stays n k limit past = grind (arith, nat_tests)

pub body_stays : (start : BodyState) (bytes more : List ℕ) (said : Result (List ℕ) WireFault) (ended : Bool)
    → body_says start bytes false ≡ Some said → body_says start (bytes ++ more) ended ≡ Some said
body_stays start bytes more said ended is =
    elim (nat_le (framing_in start bytes) FRAMING_LIMIT) as (λ w. nat_le (framing_in start bytes) FRAMING_LIMIT ≡ w → body_says start (bytes ++ more) ended ≡ Some said) [
      | true ↦ λ h. within h
      | false ↦ λ h. past h
    ] refl
  where
    within : nat_le (framing_in start bytes) FRAMING_LIMIT ≡ true → body_says start (bytes ++ more) ended ≡ Some said
    within h =
        let here : verdict (run start [] bytes).state.phase (run start [] bytes).body false ≡ Some said
        = sym (ap (λ w. cond w (verdict (run start [] bytes).state.phase (run start [] bytes).body false) (Some (Err BadChunk))) h) ∙ is in
        let final : is_final (run start [] bytes).state.phase ≡ true = said_final (run start [] bytes).state.phase (run start [] bytes).body said here in
        let framed : framing_in start (bytes ++ more) ≡ framing_in start bytes
        = omega (arith, framing_append start [] bytes more, framing_final (run start [] bytes).state more final) in
        ap (λ k. verdict_behind k (run start [] (bytes ++ more)).state.phase (run start [] (bytes ++ more)).body ended) framed
        ∙ ap (λ (q : Reached). verdict_behind (framing_in start bytes) q.state.phase q.body ended) (run_append start [] bytes more ∙ run_final (run start [] bytes).state (run start [] bytes).body more final)
        ∙ ap (λ w. cond w (verdict (run start [] bytes).state.phase (run start [] bytes).body ended) (Some (Err BadChunk))) h
        ∙ said_both (run start [] bytes).state.phase (run start [] bytes).body ended final
        ∙ here

    past : nat_le (framing_in start bytes) FRAMING_LIMIT ≡ false → body_says start (bytes ++ more) ended ≡ Some said
    past h =
        let here : Some (Err BadChunk) ≡ Some said
        = sym (ap (λ w. cond w (verdict (run start [] bytes).state.phase (run start [] bytes).body false) (Some (Err BadChunk))) h) ∙ is in
        let more_past : nat_le (framing_in start (bytes ++ more)) FRAMING_LIMIT ≡ false
        = ap (λ k. nat_le k FRAMING_LIMIT) (framing_append start [] bytes more)
        ∙ past_stays (framing_in start bytes) (framing_in (run start [] bytes).state more) FRAMING_LIMIT h in
        ap (λ w. cond w (verdict (run start [] (bytes ++ more)).state.phase (run start [] (bytes ++ more)).body ended) (Some (Err BadChunk))) more_past ∙ here
