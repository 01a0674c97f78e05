-- Bytes that lead to the end of a body.
use Rattle.std.proofs.Common.{ℕ, ◌≡◌, ◌+◌, ◌<◌, Bool, true, false, cond, eqb, get_or, List, [], ◌∷◌, length, refl, sym, ap, ◌∙◌, subst, arith, zero, suc, inl, inr, ◌⊎◌}
use Rattle.std.proofs.lemmas.Bool.Decides.{nat_tests}
use Rattle.wire_body.specs.declared.states.BodyState.{BodyState}
use Rattle.wire_body.specs.declared.states.Phase.{Phase}
use Rattle.wire_body.specs.declared.states.Phase.TheVariants.{Size, Digits, Pad, Extension, SizeEnd, Trailer, Name, Value, ValueEnd, LastEnd, Done, TooLong, Bad}
use Rattle.wire_body.specs.Bodies.{run, reached, Reached, step, line_step, expects, is_content, is_final}
use Rattle.wire_body.proofs.Runs.{run_none, run_one}
use Rattle.http_laws.proofs.Finals.{run_final}
use Rattle.http_laws.proofs.Leads.{place, is_in_line, in_line}

pub record Ends (s : BodyState) (body bytes out : List ℕ) : Type 0 where
  pub to : BodyState
  pub runs : run s body bytes ≡ reached to out
  pub done : to.phase ≡ Done

pub ends_at : {s t : BodyState} {body bytes out : List ℕ} → s ≡ t → Ends s body bytes out → Ends t body bytes out
ends_at {s} {t} {body} {bytes} {out} same e = subst (λ u. Ends u body bytes out) same e

-- what stands behind a final state
pub ends_final : (s : BodyState) (body bytes out : List ℕ) → is_final s.phase ≡ true → Ends s body bytes out → (s.phase ≡ Done) × (body ≡ out)
ends_final s body bytes out is e =
    let same : reached s body ≡ reached e.to out = sym (run_final s body bytes is) ∙ e.runs in
    (ap (λ (r : Reached). r.state.phase) same ∙ e.done, ap (λ (r : Reached). r.body) same)

pub bad_ends : {left room n : ℕ} {body bytes out : List ℕ} → Ends (place Bad left room n) body bytes out → ⊥
bad_ends {left} {room} {n} {body} {bytes} {out} e = let p : Bad ≡ Done = (ends_final (place Bad left room n) body bytes out refl e).0 in cc

pub long_ends : {left room n : ℕ} {body bytes out : List ℕ} → Ends (place TooLong left room n) body bytes out → ⊥
long_ends {left} {room} {n} {body} {bytes} {out} e = let p : TooLong ≡ Done = (ends_final (place TooLong left room n) body bytes out refl e).0 in cc

-- no byte is left, and the body isn't whole
pub not_yet : (s : BodyState) (body out : List ℕ) → is_final s.phase ≡ false → Ends s body [] out → ⊥
not_yet s body out is e =
    let same : reached s body ≡ reached e.to out = sym (run_none s body) ∙ e.runs in
    let done : is_final s.phase ≡ true = ap (λ (r : Reached). is_final r.state.phase) same ∙ ap is_final e.done in
    cc

pub ends_next : (s : BodyState) (b : ℕ) (body bytes out : List ℕ) → is_content s.phase ≡ false → Ends s body (b ∷ bytes) out → Ends (step s b) body bytes out
ends_next s b body bytes out is e = record { to = e.to; runs = sym (run_one s body b bytes is) ∙ e.runs; done = e.done }

line_no_content : (p : Phase) → is_in_line p ≡ true → is_content p ≡ false
line_no_content Size is = refl
line_no_content Digits is = refl
line_no_content Pad is = refl
line_no_content Extension is = refl
line_no_content SizeEnd is = refl
line_no_content Trailer is = refl
line_no_content Name is = refl
line_no_content Value is = refl
line_no_content ValueEnd is = refl
line_no_content LastEnd is = refl
line_no_content _ is = cc

-- a line that is full takes no byte
full_line : (p : Phase) (left room b : ℕ) → is_in_line p ≡ true → step (place p left room 0) b ≡ place Bad left room 0
full_line Size left room b is = refl
full_line Digits left room b is = refl
full_line Pad left room b is = refl
full_line Extension left room b is = refl
full_line SizeEnd left room b is = refl
full_line Trailer left room b is = refl
full_line Name left room b is = refl
full_line Value left room b is = refl
full_line ValueEnd left room b is = refl
full_line LastEnd left room b is = refl
full_line _ left room b is = cc

-- one byte of a line
pub line_next : (p : Phase) (left room n b : ℕ) (body bytes out : List ℕ) → is_in_line p ≡ true → Ends (place p left room n) body (b ∷ bytes) out
    → (m : ℕ) × (n ≡ m + 1) × Ends (line_step p (place p left room m) b) body bytes out
line_next p left room zero b body bytes out is e =
    absurd (bad_ends (ends_at (full_line p left room b is) (ends_next (place p left room 0) b body bytes out (line_no_content p is) e)))
line_next p left room (suc m) b body bytes out is e =
    let len : suc m ≡ m + 1 = omega arith in
    (m, len, ends_at (in_line p left room (suc m) m b is len) (ends_next (place p left room (suc m)) b body bytes out (line_no_content p is) e))

-- a choice, by its test
pub split : (c : Bool) (x y : BodyState) (body bytes out : List ℕ) → Ends (cond c x y) body bytes out → ((c ≡ true) × Ends x body bytes out) ⊎ ((c ≡ false) × Ends y body bytes out)
split true x y body bytes out e = inl (refl, e)
split false x y body bytes out e = inr (refl, e)

pub same_byte : (a b : ℕ) → eqb a b ≡ true → a ≡ b
same_byte a b is = grind (arith, nat_tests)

-- the byte that was due
pub expect_next : (w b left room n : ℕ) (p : Phase) (next : BodyState) (body bytes out : List ℕ) → Ends (expects w next (place p left room n) b) body bytes out
    → (b ≡ w) × Ends next body bytes out
expect_next w b left room n p next body bytes out e =
    elim (split (eqb b w) next (place Bad left room n) body bytes out e) [ inl h ↦ (same_byte b w h.0, h.1) | inr h ↦ absurd (bad_ends h.1) ]

-- each of no bytes, and of one more
pub none_pass : (test : ℕ → Bool) (k d : ℕ) → k < 0 → test (get_or [] k d) ≡ true
none_pass test k d less = absurd (omega arith)

pub one_passes : (test : ℕ → Bool) (x : ℕ) (xs : List ℕ) → test x ≡ true → ((k d : ℕ) → k < length xs → test (get_or xs k d) ≡ true) → (k d : ℕ) → k < length (x ∷ xs) → test (get_or (x ∷ xs) k d) ≡ true
one_passes test x xs is all zero d less = is
one_passes test x xs is all (suc k) d less = all k d (omega arith)
