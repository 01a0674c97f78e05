-- What stands at the front of all bytes is one thing.
use Rattle.std.proofs.Common.{ℕ, ◌≡◌, ◌+◌, ◌-◌, ◌<◌, ◌≤◌, Bool, false, List, [], ◌∷◌, ◌++◌, zero, suc, inl, inr, length, take, Option, Some, None, Result, refl, sym, ap, ◌∙◌, subst, arith}
use Rattle.std.proofs.lemmas.List.{take_all, take-append-le, length-append}
use Rattle.std.proofs.lemmas.Bool.{cases_lt}
use Rattle.outside.specs.declared.faults.WireFault.{WireFault}
use Rattle.wire_body.specs.Bodies.{body_says}
use Rattle.http_wire.specs.Messages.{Kind, Front, start_of, with_body, message_said}
use Rattle.http_head.specs.declared.TheConstants.{HEAD_LIMIT}
use Rattle.http_wire.specs.Messages.Front.{Refused, Longer, Open, Headed}
use Rattle.http_laws.proofs.Finals.{body_stays}

-- what holds of a kind of head
pub record Laws {P M : Type 0} (k : Kind P M) : Type 0 where
  pub one : (bytes : List ℕ) (p q : P) (r s : List ℕ) → k.reads bytes p r → k.reads bytes q s → (p ≡ q) × (r ≡ s)
  pub not_begun : (bytes : List ℕ) (p : P) (r : List ℕ) → k.reads bytes p r → k.begins bytes → ⊥
  pub not_none : (bytes : List ℕ) (p : P) (r : List ℕ) → k.reads bytes p r → k.refuses bytes → ⊥
  pub begun_or_none : (bytes : List ℕ) → k.begins bytes → k.refuses bytes → ⊥
  pub none_stays : (bytes more : List ℕ) → k.refuses bytes → k.refuses (bytes ++ more)
  pub cut : (bytes : List ℕ) (p : P) (r : List ℕ) (n : ℕ) → length bytes ≤ n + length r → k.reads bytes p r → (s : List ℕ) × k.reads (take n bytes) p s

-- a whole head stands within its limit, so the first bytes are neither none nor only begun
cut_not_none : {P M : Type 0} (k : Kind P M) (laws : Laws k) (bytes : List ℕ) (p : P) (r : List ℕ) → length bytes ≤ HEAD_LIMIT + length r → k.reads bytes p r → k.refuses (take HEAD_LIMIT bytes) → ⊥
cut_not_none k laws bytes p r within reads none =
    let c : (s : List ℕ) × k.reads (take HEAD_LIMIT bytes) p s = laws.cut bytes p r HEAD_LIMIT within reads in
    laws.not_none (take HEAD_LIMIT bytes) p c.0 c.1 none

cut_not_begun : {P M : Type 0} (k : Kind P M) (laws : Laws k) (bytes : List ℕ) (p : P) (r : List ℕ) → length bytes ≤ HEAD_LIMIT + length r → k.reads bytes p r → k.begins (take HEAD_LIMIT bytes) → ⊥
cut_not_begun k laws bytes p r within reads begun =
    let c : (s : List ℕ) × k.reads (take HEAD_LIMIT bytes) p s = laws.cut bytes p r HEAD_LIMIT within reads in
    laws.not_begun (take HEAD_LIMIT bytes) p c.0 c.1 begun

-- all of few bytes
few : (bytes : List ℕ) → length bytes < HEAD_LIMIT → take HEAD_LIMIT bytes ≡ bytes
few bytes less = take_all HEAD_LIMIT bytes (omega arith)

refused_not_open : {P M : Type 0} (k : Kind P M) (laws : Laws k) (bytes : List ℕ) → length bytes < HEAD_LIMIT → k.refuses (take HEAD_LIMIT bytes) → k.begins bytes → ⊥
refused_not_open k laws bytes less none begun = laws.begun_or_none bytes begun (subst (λ xs. k.refuses xs) (few bytes less) none)

pub one_front : {P M : Type 0} (k : Kind P M) (laws : Laws k) (bytes : List ℕ) (f g : Front k bytes) (ended : Bool) → message_said f ended ≡ message_said g ended
one_front k laws bytes (Refused none) (Refused none') ended = refl
one_front k laws bytes (Refused none) (Longer full begun) ended = absurd (laws.begun_or_none (take HEAD_LIMIT bytes) begun none)
one_front k laws bytes (Refused none) (Open less begun) ended = absurd (refused_not_open k laws bytes less none begun)
one_front k laws bytes (Refused none) (Headed p r reads within) ended = absurd (cut_not_none k laws bytes p r within reads none)
one_front k laws bytes (Longer full begun) (Refused none) ended = absurd (laws.begun_or_none (take HEAD_LIMIT bytes) begun none)
one_front k laws bytes (Longer full begun) (Longer full' begun') ended = refl
one_front k laws bytes (Longer full begun) (Open less begun') ended = absurd (omega arith)
one_front k laws bytes (Longer full begun) (Headed p r reads within) ended = absurd (cut_not_begun k laws bytes p r within reads begun)
one_front k laws bytes (Open less begun) (Refused none) ended = absurd (refused_not_open k laws bytes less none begun)
one_front k laws bytes (Open less begun) (Longer full begun') ended = absurd (omega arith)
one_front k laws bytes (Open less begun) (Open less' begun') ended = refl
one_front k laws bytes (Open less begun) (Headed p r reads within) ended = absurd (laws.not_begun bytes p r reads begun)
one_front k laws bytes (Headed p r reads within) (Refused none) ended = absurd (cut_not_none k laws bytes p r within reads none)
one_front k laws bytes (Headed p r reads within) (Longer full begun) ended = absurd (cut_not_begun k laws bytes p r within reads begun)
one_front k laws bytes (Headed p r reads within) (Open less begun) ended = absurd (laws.not_begun bytes p r reads begun)
one_front k laws bytes (Headed p r reads within) (Headed q s reads' within') ended =
    let same : (p ≡ q) × (r ≡ s) = laws.one bytes p q r s reads reads' in
    ap (λ x. with_body k x (body_says (start_of (k.framing x)) r ended)) same.0
    ∙ ap (λ xs. with_body k q (body_says (start_of (k.framing q)) xs ended)) same.1

-- a longer front of two lists
pub take_over : (xs ys : List ℕ) (n : ℕ) → length xs ≤ n → take n (xs ++ ys) ≡ xs ++ take (n - length xs) ys
take_over [] ys n fits = ap (λ m. take m ys) (omega arith)
take_over (x ∷ xs) ys zero fits = absurd (omega arith)
take_over (x ∷ xs) ys (suc n) fits = ap (λ zs. x ∷ zs) (take_over xs ys n (omega arith) ∙ ap (λ m. xs ++ take m ys) (omega arith))

-- what a message says once its body says something
said_with : {P M : Type 0} (k : Kind P M) (p : P) (start_says later : Option (Result (List ℕ) WireFault)) (said : Result M WireFault)
    → ((b : Result (List ℕ) WireFault) → start_says ≡ Some b → later ≡ Some b) → with_body k p start_says ≡ Some said → with_body k p later ≡ Some said
said_with k p None later said stays is = cc
said_with k p (Some b) later said stays is = ap (with_body k p) (stays b refl) ∙ is

-- the same front with more bytes behind it
grown : {P M : Type 0} (k : Kind P M) (laws : Laws k) (bytes more : List ℕ) (f : Front k bytes) (said : Result M WireFault) (ended : Bool)
    → message_said f false ≡ Some said → (g : Front k (bytes ++ more)) × (message_said g ended ≡ Some said)
grown k laws bytes more (Refused none) said ended is = (
  Refused (elim (cases_lt (length bytes) HEAD_LIMIT) [
    | inl less ↦
        subst (λ xs. k.refuses xs) (sym (take_over bytes more HEAD_LIMIT (omega arith)))
        (laws.none_stays bytes (take (HEAD_LIMIT - length bytes) more) (subst (λ xs. k.refuses xs) (few bytes less) none))
    | inr full ↦ subst (λ xs. k.refuses xs) (sym (take-append-le HEAD_LIMIT bytes more full)) none
  ]),
  is,
)
grown k laws bytes more (Longer full begun) said ended is =
    (Longer (omega (arith, length-append bytes more)) (subst (λ xs. k.begins xs) (sym (take-append-le HEAD_LIMIT bytes more full)) begun), is)
grown k laws bytes more (Open less begun) said ended is = cc
grown k laws bytes more (Headed p r reads within) said ended is = (
  Headed p (r ++ more) (k.grows bytes p r more reads) (omega (arith, within, length-append bytes more, length-append r more)),
  said_with k p (body_says (start_of (k.framing p)) r false) (body_says (start_of (k.framing p)) (r ++ more) ended) said
      (λ b said_b. body_stays (start_of (k.framing p)) r more b ended said_b) is,
)

pub front_stays : {P M : Type 0} (k : Kind P M) (laws : Laws k) (bytes more : List ℕ) (f : Front k bytes) (g : Front k (bytes ++ more)) (said : Result M WireFault) (ended : Bool)
    → message_said f false ≡ Some said → message_said g ended ≡ Some said
front_stays k laws bytes more f g said ended is =
    let h : (g' : Front k (bytes ++ more)) × (message_said g' ended ≡ Some said) = grown k laws bytes more f said ended is in
    one_front k laws (bytes ++ more) g h.0 ended ∙ h.1
