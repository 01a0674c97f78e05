-- Bytes that lead from one state to another and give no content: all of them are framing.
use Rattle.std.proofs.Common.{ℕ, ◌≡◌, ◌+◌, ◌-◌, ◌<◌, ◌≤◌, Bool, true, false, cond, eqb, leb, List, [], ◌∷◌, ◌++◌, length, refl, ap, ◌∙◌, arith, append_assoc, suc}
use Rattle.std.proofs.lemmas.Bool.Decides.{nat_tests}
use Rattle.std.proofs.lemmas.List.{length-append}
use Rattle.httparse.specs.Grammar.{AllPass}
use Rattle.wire_body.specs.declared.states.BodyState.{BodyState}
use Rattle.wire_body.specs.declared.states.Phase.{Phase}
use Rattle.wire_body.specs.declared.states.Phase.TheVariants.{Counted, Open, Data, Size, Digits, Pad, Extension, SizeEnd, Trailer, Name, Value, ValueEnd, LastEnd}
use Rattle.wire_body.specs.Bodies.{run, step, line_step, is_content, framing_at, framing_in}
use Rattle.wire_body.proofs.Runs.{run_one, framing_one}

abbrev pub place : Phase → ℕ → ℕ → ℕ → BodyState
place p left room line = record { phase = p; left = left; room = room; line = line }

-- all these bytes are framing
pub record Leads (s : BodyState) (xs : List ℕ) (t : BodyState) : Type 0 where
  pub runs : (body more : List ℕ) → run s body (xs ++ more) ≡ run t body more
  pub counts : (more : List ℕ) → framing_in s (xs ++ more) ≡ length xs + framing_in t more

pub leads_none : (s t : BodyState) → s ≡ t → Leads s [] t
leads_none s t same = record {
  runs = λ body more. ap (λ u. run u body more) same;
  counts = λ more. let next : framing_in s more ≡ framing_in t more = ap (λ u. framing_in u more) same in omega (arith, next);
}

then_counts : (s t u : BodyState) (xs ys more : List ℕ) → Leads s xs t → Leads t ys u → framing_in s ((xs ++ ys) ++ more) ≡ length (xs ++ ys) + framing_in u more
then_counts s t u xs ys more p q =
    let same : framing_in s ((xs ++ ys) ++ more) ≡ framing_in s (xs ++ (ys ++ more)) = ap (λ zs. framing_in s zs) (append_assoc xs ys more) in
    omega (arith, same, p.counts (ys ++ more), q.counts more, length-append xs ys)

pub leads_then : {s t u : BodyState} {xs ys : List ℕ} → Leads s xs t → Leads t ys u → Leads s (xs ++ ys) u
leads_then {s} {t} {u} {xs} {ys} p q = record {
  runs = λ body more. ap (λ zs. run s body zs) (append_assoc xs ys more) ∙ p.runs body (ys ++ more) ∙ q.runs body more;
  counts = λ more. then_counts s t u xs ys more p q;
}

-- a byte of framing is no content
framing_no_content : (p : Phase) → framing_at p ≡ 1 → is_content p ≡ false
framing_no_content Counted is = absurd (omega (arith, is))
framing_no_content Open is = absurd (omega (arith, is))
framing_no_content Data is = absurd (omega (arith, is))
framing_no_content _ is = refl

one_counts : (s t : BodyState) (b : ℕ) (more : List ℕ) → framing_at s.phase ≡ 1 → step s b ≡ t → framing_in s (b ∷ more) ≡ 1 + framing_in t more
one_counts s t b more is next =
    let behind : framing_in (step s b) more ≡ framing_in t more = ap (λ u. framing_in u more) next in
    omega (arith, framing_one s b more, is, behind)

pub leads_one : (s t : BodyState) (b : ℕ) → framing_at s.phase ≡ 1 → step s b ≡ t → Leads s (b ∷ []) t
leads_one s t b is next = record {
  runs = λ body more. run_one s body b more (framing_no_content s.phase is) ∙ ap (λ u. run u body more) next;
  counts = λ more. one_counts s t b more is next;
}

first_counts : (s t u : BodyState) (b : ℕ) (xs more : List ℕ) → framing_at s.phase ≡ 1 → step s b ≡ t → Leads t xs u → framing_in s (b ∷ (xs ++ more)) ≡ length (b ∷ xs) + framing_in u more
first_counts s t u b xs more is next rest = omega (arith, one_counts s t b (xs ++ more) is next, rest.counts more)

pub leads_first : {s t u : BodyState} {xs : List ℕ} (b : ℕ) → framing_at s.phase ≡ 1 → step s b ≡ t → Leads t xs u → Leads s (b ∷ xs) u
leads_first {s} {t} {u} {xs} b is next rest = record {
  runs = λ body more. run_one s body b (xs ++ more) (framing_no_content s.phase is) ∙ ap (λ v. run v body (xs ++ more)) next ∙ rest.runs body more;
  counts = λ more. first_counts s t u b xs more is next rest;
}

-- a test whose answer is known
pub not_zero : (n : ℕ) (x y : BodyState) → 0 < n → cond (eqb n 0) x y ≡ y
not_zero n x y some = grind (arith, nat_tests)

pub fits : (a b : ℕ) (x y : BodyState) → a ≤ b → cond (leb a b) x y ≡ x
fits a b x y within = grind (arith, nat_tests)

-- the parts of a line, which are counted
abbrev pub is_in_line : Phase → Bool
is_in_line Size = true
is_in_line Digits = true
is_in_line Pad = true
is_in_line Extension = true
is_in_line SizeEnd = true
is_in_line Trailer = true
is_in_line Name = true
is_in_line Value = true
is_in_line ValueEnd = true
is_in_line LastEnd = true
is_in_line _ = false

one_less : (p : Phase) (left room n m b : ℕ) → n ≡ m + 1 → line_step p (place p left room (n - 1)) b ≡ line_step p (place p left room m) b
one_less p left room n m b is = ap (λ k. line_step p (place p left room k) b) (omega arith)

-- one byte of a line
pub in_line : (p : Phase) (left room n m b : ℕ) → is_in_line p ≡ true → n ≡ m + 1 → step (place p left room n) b ≡ line_step p (place p left room m) b
in_line Size left room n m b is e = not_zero n _ _ (omega arith) ∙ one_less Size left room n m b e
in_line Digits left room n m b is e = not_zero n _ _ (omega arith) ∙ one_less Digits left room n m b e
in_line Pad left room n m b is e = not_zero n _ _ (omega arith) ∙ one_less Pad left room n m b e
in_line Extension left room n m b is e = not_zero n _ _ (omega arith) ∙ one_less Extension left room n m b e
in_line SizeEnd left room n m b is e = not_zero n _ _ (omega arith) ∙ one_less SizeEnd left room n m b e
in_line Trailer left room n m b is e = not_zero n _ _ (omega arith) ∙ one_less Trailer left room n m b e
in_line Name left room n m b is e = not_zero n _ _ (omega arith) ∙ one_less Name left room n m b e
in_line Value left room n m b is e = not_zero n _ _ (omega arith) ∙ one_less Value left room n m b e
in_line ValueEnd left room n m b is e = not_zero n _ _ (omega arith) ∙ one_less ValueEnd left room n m b e
in_line LastEnd left room n m b is e = not_zero n _ _ (omega arith) ∙ one_less LastEnd left room n m b e
in_line _ left room n m b is e = cc

-- the first of bytes that pass a test, and the others
pub first_passes : (test : ℕ → Bool) (x : ℕ) (xs : List ℕ) → AllPass test (x ∷ xs) → test x ≡ true
first_passes test x xs all = all 0 0 (omega arith)

pub others_pass : (test : ℕ → Bool) (x : ℕ) (xs : List ℕ) → AllPass test (x ∷ xs) → AllPass test xs
others_pass test x xs all = λ k d less. all (suc k) d (omega arith)
