-- The document after one input more.
use Rattle.std.proofs.Common.{◌≡◌, ℕ, ◌+◌, ◌<◌, ◌≤◌, List, [], ◌∷◌, ◌++◌, length, take, get_or, refl, sym, ap, ◌∙◌, rules}
use Rattle.std.proofs.lemmas.List.{take_more, take-append-le}
use Rattle.kit_trait.specs.Rules.{Rules, after, doc}
use Rattle.kit_trait.specs.declared.values.Input.{Input}

-- the contents after one input more
pub after_push : {C B : Type 0} (rules : Rules C B) (c : C) (inputs : List Input) (input : Input) → after rules c (inputs ++ input ∷ []) ≡ rules.step (after rules c inputs) input
after_push rules c [] input = refl
after_push rules c (i ∷ is) input = after_push rules (rules.step c i) is input

-- the document after one input more
pub doc_more : {C B : Type 0} (rules : Rules C B) (base : List ℕ) (journal : List Input) (n : ℕ) (input : Input) → n < length journal → get_or journal n input ≡ input → doc rules base journal (n + 1) ≡ rules.step (doc rules base journal n) input
doc_more rules base journal n input lt is =
    ap (λ inputs. after rules (rules.start base) inputs) (take_more journal n input lt ∙ ap (λ i. take n journal ++ i ∷ []) is)
    ∙ after_push rules (rules.start base) (take n journal) input

-- the document after inputs that were applied is the same with one more accepted behind them
pub doc_same : {C B : Type 0} (rules : Rules C B) (base : List ℕ) (journal : List Input) (n : ℕ) (input : Input) → n ≤ length journal → doc rules base journal n ≡ doc rules base (journal ++ input ∷ []) n
doc_same rules base journal n input le = ap (λ inputs. after rules (rules.start base) inputs) (sym (take-append-le n journal (input ∷ []) le))
