-- What was sent so far.
use Rattle.std.proofs.Common.{◌≡◌, ℕ, List, [], ◌++◌, refl, sym, ap, ◌∙◌, subst, append_assoc, Option, Some, None, take, drop}
use Rattle.std.proofs.lemmas.List.{append-nil, take-append-drop}
use Rattle.std.specs.Option.{option_map}
use Rattle.outside.specs.Wires.{Talk, Says, with_sent}
use Rattle.http_write.specs.Writes.{SaysSome}

-- nothing said
pub says_none : (t : Option Talk) → Says t [] t
says_none None = refl
says_none (Some t) = λ i. Some (record t { sent = sym (append-nil t.sent) i })

-- one after another
pub says_more : (a b c : Option Talk) (x y : List ℕ) → Says a x b → Says b y c → Says a (x ++ y) c
says_more None b c x y h k = k ∙ ap (option_map (with_sent y)) h
says_more (Some t) b c x y h k = k ∙ ap (option_map (with_sent y)) h ∙ (λ i. Some (record t { sent = append_assoc t.sent x y i }))

-- so far
pub record SentSoFar (first now : Option Talk) (bytes rest : List ℕ) : Type 0 where
  pub done : List ℕ
  pub parts : bytes ≡ done ++ rest
  pub says : Says first done now

pub sent_none : (t : Option Talk) (bytes : List ℕ) → SentSoFar t t bytes bytes
sent_none t bytes = record { done = []; parts = refl; says = says_none t }

pub sent_more : (first now next : Option Talk) (bytes rest rest' : List ℕ) (n : ℕ) → SentSoFar first now bytes rest → Says now (take n rest) next → rest' ≡ drop n rest → SentSoFar first next bytes rest'
sent_more first now next bytes rest rest' n so_far says is = record {
  done = so_far.done ++ take n rest;
  parts = so_far.parts ∙ ap (λ t. so_far.done ++ t) (sym (take-append-drop n rest)) ∙ sym (append_assoc so_far.done (take n rest) (drop n rest)) ∙ ap (λ t. (so_far.done ++ take n rest) ++ t) (sym is);
  says = says_more first now next so_far.done (take n rest) so_far.says says;
}

pub sent_all : (first now : Option Talk) (bytes rest : List ℕ) → SentSoFar first now bytes rest → rest ≡ [] → Says first bytes now
sent_all first now bytes rest so_far none =
    let same : so_far.done ≡ bytes = sym (append-nil so_far.done) ∙ ap (λ t. so_far.done ++ t) (sym none) ∙ sym so_far.parts in
    subst (λ t. Says first t now) same so_far.says

-- a front of the head was sent
pub some_of_first : (a b : Option Talk) (x y : List ℕ) → SaysSome a x b → SaysSome a (x ++ y) b
some_of_first a b x y (done, rest, parts, says) = (done, rest ++ y, ap (λ t. t ++ y) parts ∙ append_assoc done rest y, says)

-- the head was sent, and a front of the body
pub some_of_second : (a b c : Option Talk) (x y : List ℕ) → Says a x b → SaysSome b y c → SaysSome a (x ++ y) c
some_of_second a b c x y first (done, rest, parts, says) =
    (x ++ done, rest, ap (λ t. x ++ t) parts ∙ sym (append_assoc x done rest), says_more a b c x done first says)
