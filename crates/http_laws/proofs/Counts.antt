-- Bodies whose bytes are only counted.
use Rattle.std.proofs.Common.{ℕ, ◌≡◌, ◌+◌, ◌-◌, ◌<◌, ◌≤◌, Bool, true, false, cond, List, [], ◌∷◌, length, take, drop, Some, None, Ok, Err, refl, sym, ap, ◌∙◌, arith, zero, suc, inl, inr}
use Rattle.std.proofs.lemmas.Bool.Decides.{nat_tests}
use Rattle.std.proofs.lemmas.Bool.{cases_lt}
use Rattle.std.proofs.lemmas.List.{take_all, drop_all, length-drop}
use Rattle.outside.specs.declared.faults.WireFault.TheVariants.{BodyTooLong, CutOff}
use Rattle.wire_body.specs.declared.states.BodyState.{BodyState}
use Rattle.wire_body.specs.declared.states.Phase.{Phase}
use Rattle.wire_body.specs.declared.states.Phase.TheVariants.{Counted, Open, Full, Done, TooLong}
use Rattle.wire_body.specs.Bodies.{run, reached, Reached, taken, behind, step, verdict, verdict_behind, body_says, framing_at, framing_in, body_of, open_body, no_body, is_content}
use Rattle.wire_body.specs.declared.states.TheConstants.{BODY_LIMIT}
use Rattle.wire_body.proofs.Runs.{run_none, run_one, block_of_piece, framing_none, framing_one}
use Rattle.http_laws.specs.Lengths.{said_of_length, said_of_open}
use Rattle.http_laws.proofs.Finals.{run_final}

abbrev place : Phase → ℕ → BodyState
place p n = record { phase = p; left = n; room = 0; line = 0 }

taken_all : (p next : Phase) (n : ℕ) → taken next n (place p n) ≡ place next 0
taken_all p next n = grind (arith, nat_tests)

taken_some : (p next : Phase) (m n : ℕ) → m < n → taken next m (place p n) ≡ place p (n - m)
taken_some p next m n less = grind (arith, nat_tests)

-- enough bytes: the first so many are the content
whole : (p : Phase) (n : ℕ) (bytes : List ℕ) → is_content p ≡ true → 0 < n → n ≤ length bytes
    → run (place p n) [] bytes ≡ run (place (behind p) 0) (take n bytes) (drop n bytes)
whole p n bytes is some fits =
    block_of_piece (place p n) [] bytes n is some fits (omega arith)
    ∙ ap (λ s. run s (take n bytes) (drop n bytes)) (taken_all p (behind p) n)

-- fewer bytes: all are content, and more are due
part : (p : Phase) (n : ℕ) (bytes : List ℕ) → is_content p ≡ true → length bytes < n
    → run (place p n) [] bytes ≡ reached (place p (n - length bytes)) bytes
part p n [] is less = run_none (place p n) [] ∙ ap (λ m. reached (place p m) []) (omega arith)
part p n (b ∷ bytes) is less =
    let all : take (length (b ∷ bytes)) (b ∷ bytes) ≡ b ∷ bytes = take_all (length (b ∷ bytes)) (b ∷ bytes) (omega arith) in
    let rest : drop (length (b ∷ bytes)) (b ∷ bytes) ≡ [] = drop_all (length (b ∷ bytes)) (b ∷ bytes) (omega arith) in
    block_of_piece (place p n) [] (b ∷ bytes) (length (b ∷ bytes)) is (omega arith) (omega arith) (omega arith)
    ∙ ap (λ s. run s (take (length (b ∷ bytes)) (b ∷ bytes)) (drop (length (b ∷ bytes)) (b ∷ bytes))) (taken_some p (behind p) (length (b ∷ bytes)) n less)
    ∙ ap (λ xs. run (place p (n - length (b ∷ bytes))) xs (drop (length (b ∷ bytes)) (b ∷ bytes))) all
    ∙ ap (λ xs. run (place p (n - length (b ∷ bytes))) (b ∷ bytes) xs) rest
    ∙ run_none (place p (n - length (b ∷ bytes))) (b ∷ bytes)

-- a body that isn't in chunks has no framing
abbrev is_unframed : Phase → Bool
is_unframed Counted = true
is_unframed Open = true
is_unframed Full = true
is_unframed Done = true
is_unframed TooLong = true
is_unframed _ = false

unframed_step : (p : Phase) (left room line b : ℕ) → is_unframed p ≡ true → is_unframed (step (record { phase = p; left = left; room = room; line = line }) b).phase ≡ true
unframed_step Counted left room line b is = grind (arith, nat_tests)
unframed_step Open left room line b is = grind (arith, nat_tests)
unframed_step Full left room line b is = refl
unframed_step Done left room line b is = refl
unframed_step TooLong left room line b is = refl
unframed_step _ left room line b is = cc

unframed_byte : (p : Phase) → is_unframed p ≡ true → framing_at p ≡ 0
unframed_byte Counted is = refl
unframed_byte Open is = refl
unframed_byte Full is = refl
unframed_byte Done is = refl
unframed_byte TooLong is = refl
unframed_byte _ is = cc

no_framing : (s : BodyState) (bytes : List ℕ) → is_unframed s.phase ≡ true → framing_in s bytes ≡ 0
no_framing s [] is = framing_none s
no_framing s (b ∷ bytes) is =
    omega (arith, framing_one s b bytes, unframed_byte s.phase is, no_framing (step s b) bytes (unframed_step s.phase s.left s.room s.line b is))

unframed_length : (len : ℕ) → is_unframed (body_of len).phase ≡ true
unframed_length len = grind (arith, nat_tests)

-- what is said where the bytes lead there
says : (start s : BodyState) (bytes body : List ℕ) (ended : Bool) → is_unframed start.phase ≡ true → run start [] bytes ≡ reached s body → body_says start bytes ended ≡ verdict s.phase body ended
says start s bytes body ended unframed is =
    ap (λ k. verdict_behind k (run start [] bytes).state.phase (run start [] bytes).body ended) (no_framing start bytes unframed)
    ∙ ap (λ (r : Reached). verdict r.state.phase r.body ended) is

is_counted : (len : ℕ) → 0 < len → len ≤ BODY_LIMIT → body_of len ≡ place Counted len
is_counted len some fits = grind (arith, nat_tests)

is_too_long : (len : ℕ) → BODY_LIMIT < len → body_of len ≡ place TooLong 0
is_too_long len more = grind (arith, nat_tests)

said_whole : (len : ℕ) (bytes : List ℕ) (ended : Bool) → len ≤ BODY_LIMIT → len ≤ length bytes → said_of_length len bytes ended ≡ Some (Ok (take len bytes))
said_whole len bytes ended fits there = grind (arith, nat_tests)

said_part : (len : ℕ) (bytes : List ℕ) (ended : Bool) → len ≤ BODY_LIMIT → length bytes < len → said_of_length len bytes ended ≡ cond ended (Some (Err CutOff)) None
said_part len bytes ended fits less = grind (arith, nat_tests)

said_too_long : (len : ℕ) (bytes : List ℕ) (ended : Bool) → BODY_LIMIT < len → said_of_length len bytes ended ≡ Some (Err BodyTooLong)
said_too_long len bytes ended more = grind (arith, nat_tests)

unframed_at : (start : BodyState) (len : ℕ) → start ≡ body_of len → is_unframed start.phase ≡ true
unframed_at start len is = ap (λ (s : BodyState). is_unframed s.phase) is ∙ unframed_length len

length_at : (start : BodyState) (len : ℕ) (bytes : List ℕ) (ended : Bool) → start ≡ body_of len → 0 < len → body_says start bytes ended ≡ said_of_length len bytes ended
length_at start len bytes ended is some =
    elim (cases_lt BODY_LIMIT len) [
      | inl more ↦
          says start (place TooLong 0) bytes [] ended (unframed_at start len is) (ap (λ s. run s [] bytes) (is ∙ is_too_long len more) ∙ run_final (place TooLong 0) [] bytes refl)
          ∙ sym (said_too_long len bytes ended more)
      | inr fits ↦
          elim (cases_lt (length bytes) len) [
            | inl less ↦
                says start (place Counted (len - length bytes)) bytes bytes ended (unframed_at start len is) (ap (λ s. run s [] bytes) (is ∙ is_counted len some fits) ∙ part Counted len bytes refl less)
                ∙ sym (said_part len bytes ended fits less)
            | inr there ↦
                says start (place Done 0) bytes (take len bytes) ended (unframed_at start len is)
                (ap (λ s. run s [] bytes) (is ∙ is_counted len some fits) ∙ whole Counted len bytes refl some there ∙ run_final (place Done 0) (take len bytes) (drop len bytes) refl)
                ∙ sym (said_whole len bytes ended fits there)
          ]
    ]

pub by_length : (len : ℕ) (bytes : List ℕ) (ended : Bool) → body_says (body_of len) bytes ended ≡ said_of_length len bytes ended
by_length zero bytes ended = says no_body no_body bytes [] ended refl (run_final no_body [] bytes refl) ∙ sym (said_whole 0 bytes ended (omega arith) (omega arith))
by_length (suc n) bytes ended = length_at (body_of (suc n)) (suc n) bytes ended refl (omega arith)

open_within : (bytes : List ℕ) (ended : Bool) → length bytes ≤ BODY_LIMIT → said_of_open bytes ended ≡ cond ended (Some (Ok bytes)) None
open_within bytes ended fits = grind (arith, nat_tests)

open_beyond : (bytes : List ℕ) (ended : Bool) → BODY_LIMIT < length bytes → said_of_open bytes ended ≡ Some (Err BodyTooLong)
open_beyond bytes ended more = grind (arith, nat_tests)

-- as many bytes as a body may have, and then one more
beyond : (body rest : List ℕ) → 0 < length rest → run (place Full 0) body rest ≡ reached (place TooLong 0) body
beyond body [] some = absurd (omega arith)
beyond body (b ∷ rest) some = run_one (place Full 0) body b rest refl ∙ run_final (place TooLong 0) body rest refl

-- a number that no goal sees the digits of
open_at : (limit : ℕ) (bytes : List ℕ) → 0 < limit → length bytes ≤ limit
    → (p : Phase) × (run (place Open limit) [] bytes ≡ reached (place p (limit - length bytes)) bytes) × ((ended : Bool) → verdict p bytes ended ≡ cond ended (Some (Ok bytes)) None)
open_at limit bytes some fits =
    elim (cases_lt (length bytes) limit) [
      | inl less ↦ (Open, part Open limit bytes refl less, λ ended. refl)
      | inr same ↦
          let len : limit ≡ length bytes = omega arith in
          let all : take limit bytes ≡ bytes = take_all limit bytes (omega arith) in
          let rest : drop limit bytes ≡ [] = drop_all limit bytes (omega arith) in (
            Full,
            whole Open limit bytes refl some same
                ∙ ap (λ xs. run (place Full 0) xs (drop limit bytes)) all
                ∙ ap (λ xs. run (place Full 0) bytes xs) rest
                ∙ run_none (place Full 0) bytes
                ∙ ap (λ m. reached (place Full m) bytes) (omega arith),
            λ ended. refl,
          )
    ]

too_long_at : (limit : ℕ) (bytes : List ℕ) → 0 < limit → limit < length bytes → run (place Open limit) [] bytes ≡ reached (place TooLong 0) (take limit bytes)
too_long_at limit bytes some more =
    whole Open limit bytes refl some (omega arith) ∙ beyond (take limit bytes) (drop limit bytes) (omega (arith, length-drop limit bytes))

pub to_the_end : (bytes : List ℕ) (ended : Bool) → body_says open_body bytes ended ≡ said_of_open bytes ended
to_the_end bytes ended =
    elim (cases_lt BODY_LIMIT (length bytes)) [
      | inl more ↦
          says open_body (place TooLong 0) bytes (take BODY_LIMIT bytes) ended refl (too_long_at BODY_LIMIT bytes (omega arith) more) ∙ sym (open_beyond bytes ended more)
      | inr fits ↦
          let found : (p : Phase) × (run (place Open BODY_LIMIT) [] bytes ≡ reached (place p (BODY_LIMIT - length bytes)) bytes) × ((e : Bool) → verdict p bytes e ≡ cond e (Some (Ok bytes)) None)
          = open_at BODY_LIMIT bytes (omega arith) fits in
          says open_body (place found.0 (BODY_LIMIT - length bytes)) bytes bytes ended refl found.1 ∙ found.2 ended ∙ sym (open_within bytes ended fits)
    ]
